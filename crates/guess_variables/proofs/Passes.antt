-- The steps of the variable scan, case by case; how far a step goes; DIM, looked for backwards; and the loop over a line.
-- Assumes nothing.
use Prim.Native.Nat.{ℕ, suc, ◌+◌, ◌-◌, ◌≤◌, ◌<◌}
use mathlib.Core.Path.{◌≡◌, refl, sym, ap, ◌∙◌, subst}
use mathlib.Core.Bool.{Bool, true, false, ◌&&◌, ◌||◌}
use mathlib.Core.List.{List, [], ◌∷◌, ◌++◌, reverse, reverse-append, reverse-reverse}
use native.Mathlib.Nat.{add-zero}
use native.Mathlib.Omega.{arith}
use lib.Dec.{eqb, leb}
use Rattle.std.proofs.Common.{◌⊎◌, inl, inr}
use lib.ListN.{length, get_or, take, drop, set, drop_of_length-le, length-drop, length-set, length-reverse}
use lib.Seq.{drop-drop, get_or-drop, take-add, take-take, length-take-le}
use borrow.Author.Tests.{eq-eqb, ne_eqb, le-leb, lt-leb}
use mir.Syntax.{w64}
use mir.Val.{Fits}
use Rattle.base_steps.proofs.Nearer.{Nearer, again_on}
use Rattle.base_ascii.specs.Bytes.{upper, is_letter}
use Rattle.base_ascii.specs.Search.{is_white, front, past, past_end}
use Rattle.base_ascii.specs.declared.search.Kind.TheVariants.{Space}
use Rattle.base_ascii.proofs.Searching.{tail, end_take, end_le}
use Rattle.word_search.specs.Compare.{begins}
use Rattle.word_search.specs.Find.{word_in}
use Rattle.word_search.specs.declared.Match.{Match}
use Rattle.std.specs.Prelude.{Option, Some, None}
use Rattle.word_search.specs.Spelling.{bytes_of}
use Rattle.word_tables.specs.Tsb.{tsb_words}
use Rattle.base_ascii.proofs.Choice.{taken, left, either}
use Rattle.guess_uses.specs.Ahead.{assigns}
use Rattle.guess_places.specs.Places.{is_plain, aside}
use Rattle.guess_places.specs.PlaceHelpers.{stays}
use Rattle.guess_variables.specs.Variables.{after_dim, is_name, word_pass, plain_pass, pass_of, NameScan, on_by, names_on, names_from, line_names}
use Rattle.guess_places.specs.declared.place.Place.{Place}
use Rattle.guess_places.specs.declared.place.Place.TheVariants.{Within, Quoted, Data}
use Rattle.guess_variables.specs.declared.Pass.{Pass}
use Rattle.guess_variables.specs.declared.Pass.TheVariants.{Remark, On, Name}
use Rattle.guess_uses.proofs.Behind.{rest, rest_long}
use Rattle.guess_places.proofs.Places.{Same, stretch}
use Rattle.guess_places.proofs.Words.{begins_long, word_bounds, no_letter, not_rem, not_data, letter_high}

-- what a line has in front of a place, from the last byte back to the first
abbrev pub passed_at : List ℕ → ℕ → List ℕ
passed_at line i = reverse (take i line)

-- ---- DIM

-- read backwards, DIM is MID
mid_dim : (v u : List ℕ) → length v ≡ 3 → begins (bytes_of "MID") (reverse v ++ u) ≡ begins (bytes_of "DIM") v
unfolding begins
mid_dim [] u h = absurd (omega arith)
mid_dim (a ∷ []) u h = absurd (omega arith)
mid_dim (a ∷ b ∷ []) u h = absurd (omega arith)
mid_dim (a ∷ b ∷ c ∷ d ∷ v) u h = absurd (omega arith)
mid_dim (a ∷ b ∷ c ∷ []) u h = go (eqb (upper 0x4D) (upper c)) (eqb (upper 0x49) (upper b)) (eqb (upper 0x44) (upper a))
  where
    go : (x y z : Bool)
        → ◌≡◌ {A = Bool} (elim x [ true ↦ elim y [ true ↦ elim z [ true ↦ true | false ↦ false ] | false ↦ false ] | false ↦ false ])
        (elim z [ true ↦ elim y [ true ↦ elim x [ true ↦ true | false ↦ false ] | false ↦ false ] | false ↦ false ])
    go true true true = refl
    go true true false = refl
    go true false true = refl
    go true false false = refl
    go false true true = refl
    go false true false = refl
    go false false true = refl
    go false false false = refl

module _ (line : List ℕ) (i : ℕ) where
  dim_early : i < 4 → i ≤ length line → false ≡ after_dim (passed_at line i)
  unfolding after_dim
  dim_early h w =
      let n : length (passed_at line i) < 4 = omega (arith, length-reverse (take i line), length-take-le i line w) in
      ap (λ (r : Bool). r && begins (bytes_of "MID") (past is_white (passed_at line i))) (sym (lt-leb _ _ n))

  pub dim_first : i < 4 → i ≤ length line → leb 4 i ≡ after_dim (passed_at line i)
  dim_first h w = lt-leb _ _ h ∙ dim_early h w

  module _ {e : ℕ} (p : e ≡ length (past_end is_white (take i line))) (h : 4 ≤ i) (w : i ≤ length line) where
    -- what is left behind the white space, read backwards
    solid_is : past is_white (passed_at line i) ≡ reverse (take e line)
    unfolding past_end
    solid_is =
        let u : past_end is_white (take i line) ≡ take e (take i line) = sym (end_take is_white (take i line)) ∙ ap (λ (n : ℕ). take n (take i line)) (sym p) in
        let l : e ≤ i = omega (arith, end_le is_white (take i line), length-take-le i line w) in
        sym (reverse-reverse (past is_white (passed_at line i))) ∙ ap reverse (u ∙ take-take e i line l)

    dim_is : begins (bytes_of "MID") (reverse (take e line)) ≡ after_dim (passed_at line i)
    unfolding after_dim
    dim_is =
        let n : 4 ≤ length (passed_at line i) = omega (arith, length-reverse (take i line), length-take-le i line w) in
        ap (begins (bytes_of "MID")) (sym solid_is)
        ∙ ap (λ (r : Bool). r && begins (bytes_of "MID") (past is_white (passed_at line i))) (sym (le-leb _ _ n))

    pub solid_within : e ≤ length line
    solid_within = omega (arith, end_le is_white (take i line), length-take-le i line w)

    dim_short : e < 3 → false ≡ after_dim (passed_at line i)
    dim_short l = go (begins (bytes_of "MID") (reverse (take e line))) refl ∙ dim_is
      where
        go : (r : Bool) → begins (bytes_of "MID") (reverse (take e line)) ≡ r → false ≡ begins (bytes_of "MID") (reverse (take e line))
        go true q =
            absurd (omega (arith, begins_long (bytes_of "MID") (reverse (take e line)) q, length-reverse (take e line), length-take-le e line solid_within))
        go false q = sym q

    pub dim_less : ((4 ≤ i) × (e < 3)) ⊎ (i < 4) → leb 3 e ≡ after_dim (passed_at line i)
    dim_less (inl q) = lt-leb _ _ q.1 ∙ dim_short q.1
    dim_less (inr q) = absurd (omega arith)

    pub dim_told : {x : Bool} → x ≡ begins (bytes_of "DIM") (take (e - (e - 3)) (drop (e - 3) line)) → 3 ≤ e → x ≡ after_dim (passed_at line i)
    dim_told q l =
        let v = take 3 (drop (e - 3) line) in
        let n : e - (e - 3) ≡ 3 = omega arith in
        let s : e - 3 + 3 ≡ e = omega arith in
        let long : length v ≡ 3 = length-take-le 3 (drop (e - 3) line) (omega (arith, length-drop (e - 3) line, solid_within)) in
        let parts : reverse (take e line) ≡ reverse v ++ reverse (take (e - 3) line) =
        ap (λ (m : ℕ). reverse (take m line)) (sym s) ∙ ap reverse (take-add (e - 3) 3 line) ∙ reverse-append (take (e - 3) line) v in
        q ∙ ap (λ (m : ℕ). begins (bytes_of "DIM") (take m (drop (e - 3) line))) n
        ∙ sym (ap (begins (bytes_of "MID")) parts ∙ mid_dim v (reverse (take (e - 3) line)) long)
        ∙ dim_is

pub prefix_long : (line : List ℕ) {i : ℕ} → i ≤ length line → i ≡ length (take i line)
prefix_long line {i} h = sym (length-take-le i line h)

-- ---- a word that is a variable

module _ (line : List ℕ) (i used : ℕ) where
  at_word : drop (i + used) line ≡ drop used (drop i line)
  at_word = sym (drop-drop used i line)

  module _ {x : Bool} where
    told_assigned : x ≡ assigns Space (rest line (i + used)) → x ≡ assigns Space (drop used (drop i line))
    told_assigned p = p ∙ ap (assigns Space) (tail line (i + used) ∙ at_word)

    pub name_assigned : x ≡ true → x ≡ assigns Space (rest line (i + used)) → x ≡ is_name (passed_at line i) (drop i line) used
    unfolding is_name
    name_assigned e p = e ∙ ap (λ (r : Bool). r || after_dim (passed_at line i)) (sym e ∙ told_assigned p)

    pub name_dim : {y : Bool} → y ≡ after_dim (passed_at line i) → x ≡ false → x ≡ assigns Space (rest line (i + used)) → y ≡ is_name (passed_at line i) (drop i line) used
    unfolding is_name
    name_dim q e p = q ∙ ap (λ (r : Bool). r || after_dim (passed_at line i)) (sym e ∙ told_assigned p)

module _ (line : List ℕ) (i : ℕ) {m : Option Match} where
  told_word : m ≡ word_in tsb_words (rest line i) → word_in tsb_words (drop i line) ≡ m
  told_word p = sym (p ∙ ap (word_in tsb_words) (tail line i))

  pub pass_nothing : {r : Pass} → r ≡ On 1 Within → m ≡ None → m ≡ word_in tsb_words (rest line i) → r ≡ word_pass (passed_at line i) (drop i line)
  unfolding word_pass
  pass_nothing q e p = q ∙ rw (word_pass, told_word p ∙ e)

  module _ {n : Match} where
    pub name_within_lem : m ≡ Some n → m ≡ word_in tsb_words (rest line i) → i ≤ length line → i + n.used ≤ length line
    name_within_lem e p h = omega (arith, (word_bounds (rest line i) (sym p ∙ e)).within, rest_long line i)

    module _ {x : Bool} where
      pub pass_name : x ≡ true → x ≡ is_name (passed_at line i) (drop i line) n.used → m ≡ Some n → m ≡ word_in tsb_words (rest line i) → Name n.index n.used ≡ word_pass (passed_at line i) (drop i line)
      unfolding word_pass
      pass_name t q e p = rw (word_pass, told_word p ∙ e) (sym (taken _ _ (sym q ∙ t)))

      pub pass_word : {r : Pass} → r ≡ On n.used Within → x ≡ false → x ≡ is_name (passed_at line i) (drop i line) n.used → m ≡ Some n → m ≡ word_in tsb_words (rest line i) → r ≡ word_pass (passed_at line i) (drop i line)
      unfolding word_pass
      pass_word s t q e p = s ∙ rw (word_pass, told_word p ∙ e) (sym (left _ _ (sym q ∙ t)))

-- ---- a step outside strings and DATA

module _ (line : List ℕ) (i : ℕ) where
  first_at : get_or (drop i line) 0 0 ≡ get_or line i 0
  first_at = get_or-drop i line 0 0 ∙ ap (λ (n : ℕ). get_or line n 0) (add-zero i)

  no_quote : (get_or line i 0 ≡ 0x22 → ⊥) → eqb (get_or (drop i line) 0 0) 0x22 ≡ false
  no_quote n = ne_eqb _ _ (λ e. n (sym first_at ∙ e))

  pub pass_quote : {s : Pass} → s ≡ On 1 Quoted → get_or line i 0 ≡ 0x22 → s ≡ plain_pass (passed_at line i) (drop i line)
  unfolding plain_pass
  pass_quote q e = q ∙ sym (taken _ _ (eq-eqb _ _ (first_at ∙ e)))

  told_data : {d : Bool} → d ≡ begins (bytes_of "DATA") (rest line i) → begins (bytes_of "DATA") (drop i line) ≡ d
  told_data p = sym (p ∙ ap (begins (bytes_of "DATA")) (tail line i))

  module _ {r : Bool} where
    told_rem : r ≡ begins (bytes_of "REM") (rest line i) → begins (bytes_of "REM") (drop i line) ≡ r
    told_rem p = sym (p ∙ ap (begins (bytes_of "REM")) (tail line i))

    pass_remark : r ≡ true → r ≡ begins (bytes_of "REM") (rest line i) → (get_or line i 0 ≡ 0x22 → ⊥) → Remark ≡ plain_pass (passed_at line i) (drop i line)
    unfolding plain_pass
    pass_remark e p n = sym (left _ _ (no_quote n) ∙ taken _ _ (told_rem p ∙ e))

    module _ {d : Bool} where
      pass_data : {s : Pass} → s ≡ On 4 Data → d ≡ true → d ≡ begins (bytes_of "DATA") (rest line i) → r ≡ false → r ≡ begins (bytes_of "REM") (rest line i) → (get_or line i 0 ≡ 0x22 → ⊥)
          → s ≡ plain_pass (passed_at line i) (drop i line)
      unfolding plain_pass
      pass_data q f u e p n = q ∙ sym (left _ _ (no_quote n) ∙ left _ _ (told_rem p ∙ e) ∙ taken _ _ (told_data u ∙ f))

      pass_on : {s : Pass} → s ≡ word_pass (passed_at line i) (drop i line) → d ≡ false → d ≡ begins (bytes_of "DATA") (rest line i) → r ≡ false → r ≡ begins (bytes_of "REM") (rest line i)
          → (get_or line i 0 ≡ 0x22 → ⊥) → s ≡ plain_pass (passed_at line i) (drop i line)
      unfolding plain_pass
      pass_on q f u e p n = q ∙ sym (left _ _ (no_quote n) ∙ left _ _ (told_rem p ∙ e) ∙ left _ _ (told_data u ∙ f))

  -- at a letter: REM, DATA or a word
  letter_quote : is_letter (get_or line i 0) ≡ true → get_or line i 0 ≡ 0x22 → ⊥
  letter_quote l e = omega (arith, letter_high (get_or line i 0) l)

  module _ (l : is_letter (get_or line i 0) ≡ true) {r : Bool} where
    pub letter_remark : r ≡ true → r ≡ begins (bytes_of "REM") (rest line i) → Remark ≡ plain_pass (passed_at line i) (drop i line)
    letter_remark e p = pass_remark e p (letter_quote l)

    module _ {d : Bool} {s : Pass} where
      pub letter_data : s ≡ On 4 Data → d ≡ true → d ≡ begins (bytes_of "DATA") (rest line i) → r ≡ false → r ≡ begins (bytes_of "REM") (rest line i) → s ≡ plain_pass (passed_at line i) (drop i line)
      letter_data q f u e p = pass_data q f u e p (letter_quote l)

      pub letter_word : s ≡ word_pass (passed_at line i) (drop i line) → d ≡ false → d ≡ begins (bytes_of "DATA") (rest line i) → r ≡ false → r ≡ begins (bytes_of "REM") (rest line i)
          → s ≡ plain_pass (passed_at line i) (drop i line)
      letter_word q f u e p = pass_on q f u e p (letter_quote l)

  -- at another byte: none of them
  pub pass_other : {s : Pass} {x : Bool} → s ≡ On 1 Within → x ≡ false → x ≡ is_letter (get_or line i 0) → (get_or line i 0 ≡ 0x22 → ⊥) → s ≡ plain_pass (passed_at line i) (drop i line)
  pass_other q e p d =
      let n : is_letter (get_or (rest line i) 0 0) ≡ false = ap is_letter (ap (λ (t : List ℕ). get_or t 0 0) (tail line i) ∙ first_at) ∙ sym p ∙ e in
      pass_on (pass_nothing line i q refl (no_letter (rest line i) refl (sym n))) refl (sym (not_data (rest line i) n)) refl (sym (not_rem (rest line i) n)) d

  module _ (place : Place) {x : Bool} {s : Pass} where
    pub pass_plain : s ≡ plain_pass (passed_at line i) (drop i line) → x ≡ true → x ≡ is_plain place → s ≡ pass_of (passed_at line i) place (drop i line)
    unfolding pass_of
    pass_plain q e p = q ∙ sym (taken _ _ (sym p ∙ e))

    pub pass_aside : {n : Place} → s ≡ On 1 n → n ≡ aside place (get_or line i 0) → x ≡ false → x ≡ is_plain place → s ≡ pass_of (passed_at line i) place (drop i line)
    unfolding pass_of
    pass_aside r q e p = r ∙ ap (On 1) (q ∙ ap (aside place) (sym first_at)) ∙ sym (left _ _ (sym p ∙ e))

-- ---- how far a step goes: one byte at least, and not past the line; and a word's place is one of the list's

abbrev Far : ℕ → Pass → Type 0
Far l Remark = Unit {0}
Far l (On used next) = (0 < used) × (used ≤ l)
Far l (Name index used) = (index < 123) × (0 < used) × (used ≤ l)

module _ (passed : List ℕ) (t : List ℕ) (h : 0 < length t) where
  far_one : (next : Place) → Far (length t) (On 1 next)
  far_one next = (omega arith, omega arith)

  far_word : Far (length t) (word_pass passed t)
  unfolding word_pass
  far_word = go (word_in tsb_words t) refl
    where
      go : (m : Option Match) → word_in tsb_words t ≡ m
          → Far (length t) (elim m [
            | Some n ↦ elim (is_name passed t n.used) [ true ↦ Name n.index n.used | false ↦ On n.used Within ]
            | None ↦ On 1 Within
          ])
      go (Some n) e =
          let b = word_bounds t e in
          either (Far (length t)) (is_name passed t n.used) (Name n.index n.used) (On n.used Within) (λ _. (b.place, b.some, b.within)) (λ _. (b.some, b.within))
      go None e = far_one Within

  far_plain : Far (length t) (plain_pass passed t)
  unfolding plain_pass
  far_plain =
      either (Far (length t)) (eqb (get_or t 0 0) 0x22) _ _ (λ _. far_one Quoted) (λ _.
      either (Far (length t)) (begins (bytes_of "REM") t) _ _ (λ _. tt) (λ _.
      either (Far (length t)) (begins (bytes_of "DATA") t) _ _ (λ e. (omega arith, begins_long (bytes_of "DATA") t e)) (λ _. far_word)))

  far_pass : (place : Place) → Far (length t) (pass_of passed place t)
  unfolding pass_of
  far_pass place = either (Far (length t)) (is_plain place) _ _ (λ _. far_plain) (λ _. far_one (aside place (get_or t 0 0)))

-- ---- the loop over a line

-- what is answered behind a step
abbrev behind_pass : (NameScan → List Bool) → NameScan → Pass → List Bool
behind_pass more s Remark = s.found
behind_pass more s (On used next) = more (on_by s used next s.found)
behind_pass more s (Name index used) = more (on_by s used Within (set s.found index true))

abbrev standing : List ℕ → Place → List ℕ → List Bool → NameScan
standing passed place t found = record { passed = passed; place = place; left = t; found = found }

on_some : (more : NameScan → List Bool) (p : List ℕ) (place : Place) (t : List ℕ) (f : List Bool) → 0 < length t
    → names_on more (standing p place t f) ≡ behind_pass more (standing p place t f) (pass_of p place t)
unfolding names_on
on_some more p place [] f h = absurd (omega arith)
on_some more p place (b ∷ s) f h = go (pass_of p place (b ∷ s))
  where
    go : (x : Pass) → elim x [
      | Remark ↦ f
      | On used next ↦ more (on_by (standing p place (b ∷ s) f) used next f)
      | Name index used ↦ more (on_by (standing p place (b ∷ s) f) used Within (set f index true))
    ] ≡ behind_pass more (standing p place (b ∷ s) f) x
    go Remark = refl
    go (On used next) = refl
    go (Name index used) = refl

near : Nearer {S = NameScan} {R = List Bool} (λ s. length s.left) names_on
unfolding names_on
near x f g h = go x.passed x.place x.left x.found h
  where
    go : (p : List ℕ) (place : Place) (t : List ℕ) (w : List Bool) → ((y : NameScan) → length y.left < length t → f y ≡ g y)
        → names_on f (standing p place t w) ≡ names_on g (standing p place t w)
    go p place [] w k = refl
    go p place (b ∷ s) w k =
        on_some f p place (b ∷ s) w (omega arith) ∙ same (pass_of p place (b ∷ s)) (far_pass p (b ∷ s) (omega arith) place)
        ∙ sym (on_some g p place (b ∷ s) w (omega arith))
      where
        same : (y : Pass) → Far (suc (length s)) y → behind_pass f (standing p place (b ∷ s) w) y ≡ behind_pass g (standing p place (b ∷ s) w) y
        same Remark q = refl
        same (On used next) q = k (on_by (standing p place (b ∷ s) w) used next w) (omega (arith, q.0, length-drop used (b ∷ s)))
        same (Name index used) q = k (on_by (standing p place (b ∷ s) w) used Within (set w index true)) (omega (arith, q.1, length-drop used (b ∷ s)))

once : (x : NameScan) → names_from x ≡ names_on names_from x
unfolding names_from
once x = again_on near [] (λ y. suc (length y.left)) (λ y. omega arith) x

none_left : (p : List ℕ) (place : Place) (f : List Bool) → names_from (standing p place [] f) ≡ f
unfolding names_on
none_left p place f = once (standing p place [] f)

-- the scan at a place of a line
abbrev pub scan_at : List ℕ → ℕ → Place → List Bool → NameScan
scan_at line i place found = standing (passed_at line i) place (drop i line) found

further : (line : List ℕ) (i used : ℕ) (place next : Place) (found f : List Bool) → on_by (scan_at line i place found) used next f ≡ scan_at line (i + used) next f
further line i used place next found f =
    let p : reverse (take used (drop i line)) ++ passed_at line i ≡ passed_at line (i + used) =
    sym (ap reverse (take-add i used line) ∙ reverse-append (take i line) (take used (drop i line))) in
    ap (λ (x : List ℕ). standing x next (drop used (drop i line)) f) p ∙ ap (λ (l : List ℕ). standing (passed_at line (i + used)) next l f) (drop-drop used i line)

-- what is left of the line adds to the words found what makes w of them
pub record Passing (line : List ℕ) (w : List Bool) (size : ℕ) (found : List Bool) (place : Place) (i : ℕ) : Type 0 where
  pub within : i ≤ length line
  pub room : 123 ≤ size
  pub sized : length found ≡ size
  pub gives : names_from (scan_at line i place found) ≡ w

pub passing_start : (line : List ℕ) (found : List Bool) → 123 ≤ length found → Passing line (line_names line found) (length found) found Within 0
unfolding line_names
passing_start line found h = record { within = omega arith; room = h; sized = refl; gives = refl }

pub passing_end : {line : List ℕ} {w : List Bool} {size : ℕ} {found : List Bool} {place : Place} {i : ℕ} → length line ≤ i → Passing line w size found place i → found ≡ w
passing_end {line} {w} {size} {found} {place} {i} h k =
    sym (none_left (passed_at line i) place found)
    ∙ sym (ap (λ (l : List ℕ). names_from (standing (passed_at line i) place l found)) (drop_of_length-le line h))
    ∙ k.gives

module _ (line : List ℕ) (place : Place) (i : ℕ) {s : Pass} where
  there : {x : Pass} (found : List Bool) → s ≡ x → s ≡ pass_of (passed_at line i) place (drop i line) → i < length line
      → names_from (scan_at line i place found) ≡ behind_pass names_from (scan_at line i place found) x
  there found e q h =
      once (scan_at line i place found)
      ∙ on_some names_from (passed_at line i) place (drop i line) found (omega (arith, length-drop i line))
      ∙ ap (behind_pass names_from (scan_at line i place found)) (sym q ∙ e)

  far : {x : Pass} → s ≡ x → s ≡ pass_of (passed_at line i) place (drop i line) → i < length line → Far (length line - i) x
  far {x} e q h =
      let f : Far (length (drop i line)) x = subst (Far (length (drop i line))) (sym q ∙ e) (far_pass (passed_at line i) (drop i line) (omega (arith, length-drop i line)) place) in
      subst (λ (n : ℕ). Far n x) (length-drop i line) f

  pub passing_remark : {w : List Bool} {size : ℕ} {found : List Bool} → s ≡ Remark → s ≡ pass_of (passed_at line i) place (drop i line) → i < length line → Passing line w size found place i → found ≡ w
  passing_remark {w} {size} {found} e q h k = sym (there found e q h) ∙ k.gives

  module _ {used : ℕ} {next : Place} (e : s ≡ On used next) (q : s ≡ pass_of (passed_at line i) place (drop i line)) (h : i < length line) where
    on_within : i + used ≤ length line
    on_within = omega (arith, far e q h)

    pub pass_fits : Fits w64 (length line) → Fits w64 (i + used)
    pass_fits f = record { fits = omega (arith, f.fits, on_within) }

    passing_on : {w : List Bool} {size : ℕ} {found : List Bool} → Passing line w size found place i → Passing line w size found next (i + used)
    passing_on {w} {size} {found} k =
        record {
          within = on_within;
          room = k.room;
          sized = k.sized;
          gives = sym (there found e q h ∙ ap names_from (further line i used place next found found)) ∙ k.gives;
        }

  module _ {index used : ℕ} (e : s ≡ Name index used) (q : s ≡ pass_of (passed_at line i) place (drop i line)) (h : i < length line) where
    named_within : i + used ≤ length line
    named_within = omega (arith, (far e q h).2)

    pub name_fits : Fits w64 (length line) → Fits w64 (i + used)
    name_fits f = record { fits = omega (arith, f.fits, named_within) }

    pub name_less : length line - (i + used) < length line - i
    name_less = omega (arith, (far e q h).1, named_within)

    module _ {w : List Bool} {size : ℕ} {found : List Bool} (k : Passing line w size found place i) where
      pub name_place : index < length found
      name_place = omega (arith, (far e q h).0, k.room, k.sized)

      pub passing_name : Passing line w size (set found index true) Within (i + used)
      passing_name =
          record {
            within = named_within;
            room = k.room;
            sized = length-set found index true ∙ k.sized;
            gives = sym (there found e q h ∙ ap names_from (further line i used place Within found (set found index true))) ∙ k.gives;
          }

-- ---- a step, and the bytes of a string or of DATA behind it

same_turn : (line : List ℕ) (place : Place) (j : ℕ) {w : List Bool} {size : ℕ} {found : List Bool} → j < length line → Same place (get_or line j 0) → Passing line w size found place j
    → Passing line w size found place (j + 1)
unfolding pass_of
same_turn line place j h s k =
    let q : On 1 place ≡ pass_of (passed_at line j) place (drop j line) = sym (left _ _ s.apart ∙ ap (On 1) (ap (aside place) (first_at line j) ∙ s.same)) in
    passing_on line place j {s = On 1 place} refl q h k

module _ (line : List ℕ) (place : Place) (i : ℕ) {s : Pass} {used : ℕ} {next : Place} (e : s ≡ On used next) (q : s ≡ pass_of (passed_at line i) place (drop i line)) (h : i < length line) where
  pub behind_some : 0 < used
  behind_some = (far line place i e q h).0

  pub behind_within : i + used ≤ length line
  behind_within = on_within line place i e q h

  pub passing_stretch : {w : List Bool} {size n : ℕ} {found : List Bool} → n ≡ front (stays next) (rest line (i + used)) → Passing line w size found place i
      → Passing line w size found next (i + used + n)
  passing_stretch {w} {size} {n} {found} p k =
      stretch line next i used p behind_within (Passing line w size found next) (λ j g o. same_turn line next j g o) (passing_on line place i e q h k)
