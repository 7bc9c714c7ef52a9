-- A body in which no } stands behind a * is never longer than its text: each step writes no more bytes than it takes. A TSB word gives
-- two bytes, and has two; an escape without a count gives one.
-- Assumes nothing.
use Prim.Native.Nat.{ℕ, suc, zero, ◌+◌, ◌-◌, ◌≤◌, ◌<◌}
use mathlib.Core.Path.{◌≡◌, refl, ap}
use mathlib.Core.Bool.{Bool, true, false, not, ◌&&◌}
use mathlib.Core.List.{List, [], ◌∷◌, ◌++◌}
use native.Mathlib.Decide.{dec_lt, dec_le}
use native.Mathlib.Omega.{arith}
use lib.Dec.{T, eqb, ltb, leb, leb→le}
use lib.ListN.{length, get_or, take, drop, length-append, length-take, length-drop, drop_of_length-le}
use lib.Seq.{drop-drop}
use borrow.Author.Tests.{le-ltb, ltb-true, ltb-false}
use Rattle.base_ascii.specs.Bytes.{upper}
use Rattle.base_ascii.specs.Search.{equals, other, before, front}
use Rattle.base_ascii.proofs.Searching.{tail, before_le, before_take, front_drop}
use Rattle.word_search.specs.Find.{Entry, first_that, word_in, among_in}
use Rattle.word_search.specs.declared.Match.{Match}
use Rattle.std.specs.Prelude.{Option, Some, None}
use Rattle.word_search.proofs.Search.{and_left, and_right}
use Rattle.word_tables.specs.Rom.{v2_words}
use Rattle.word_tables.specs.Tsb.{tsb_words}
use Rattle.word_match.specs.Sets.{is_demoted, is_live, live_word, plain_word}
use Rattle.body_short_forms.specs.Forms.{form_word}
use Rattle.body_short_forms.proofs.Standing.{form_takes}
use Rattle.word_match.specs.declared.sets.Sets.{Sets}
use Rattle.escape_bytes.specs.Escape.{escape_of}
use Rattle.escape_bytes.specs.declared.Escape.{Escape}
use Rattle.escape_bytes.proofs.Once.{Often, given_once}
use Rattle.body.specs.Body.{written, crunched_from, crunched_body}
use Rattle.body.specs.BoundHelpers.{may_repeat}
use Rattle.body_rules.specs.Lexicon.{lexicon}
use Rattle.body_rules.specs.Steps.{first, one, token, opened, other_step, sign_step, form_step, plain_step, lettered, string_byte, escaped, braced, string_step, data_step, data_quote_step, crunch_step}
use Rattle.body_rules.specs.declared.Mode.{Mode}
use Rattle.body_rules.specs.declared.Mode.TheVariants.{Plain, String, Remark, Data, DataQuote}
use Rattle.body_rules.specs.declared.Move.{Move}
use Rattle.body_rules.proofs.Beginnings.{Takes, document_proper, word_takes, plain_word_takes, operators_start}
use Rattle.body.proofs.Progress.{step_takes}
use Rattle.body.proofs.Run.{length_written, body_end_lem, body_step}

-- ---- the TSB words

unfoldable all_long : List Entry → Bool
all_long [] = true
all_long (e ∷ es) = leb 2 (length e.word) && all_long es

tsb_long : T (all_long tsb_words)
unfolding all_long tsb_words
tsb_long = tt

found_long : (p : ℕ → List ℕ → Bool) (es : List Entry) (k : ℕ) → T (all_long es) → {m : Match} → first_that p es k ≡ Some m → 2 ≤ m.used
unfolding first_that all_long
found_long p [] k a {m} q = let z : ◌≡◌ {A = ℕ} 0 1 = cc in absurd (omega arith)
found_long p (e ∷ es) k a {m} q = go (p k e.word) q (found_long p es (suc k) (and_right (leb 2 (length e.word)) _ a))
  where
    go : (b : Bool) → elim b [ true ↦ Some (record { index = k; used = length e.word; token = e.token }) | false ↦ first_that p es (suc k) ] ≡ Some m
        → (first_that p es (suc k) ≡ Some m → 2 ≤ m.used) → 2 ≤ m.used
    go true h f =
        let size : length e.word ≡ m.used = cc in
        omega (arith, leb→le 2 (length e.word) (and_left (leb 2 (length e.word)) _ a))
    go false h f = f h

live_long : (s : Sets) (t : List ℕ) {m : Match} → live_word s tsb_words t ≡ Some m → 2 ≤ m.used
unfolding live_word among_in
live_long s t {m} e = go (among_in (is_demoted s) tsb_words t) e
  where
    go : (d : Option Match) → elim d [ Some w ↦ None | None ↦ among_in (is_live s) tsb_words t ] ≡ Some m → 2 ≤ m.used
    go (Some w) q = let z : ◌≡◌ {A = ℕ} 0 1 = cc in absurd (omega arith)
    go None q = found_long _ tsb_words 0 tsb_long q

-- ---- a step writes no more than it takes

abbrev Narrow : Move → Type 0
Narrow o = length (written o) ≤ o.used

by_test : (r : Bool) (x y : Move) → Narrow x → Narrow y → Narrow (elim r [ true ↦ x | false ↦ y ])
by_test true x y f g = f
by_test false x y f g = g

by_match : (m : Option Match) (x : Match → Move) (y : Move) → ((w : Match) → m ≡ Some w → Narrow (x w)) → Narrow y
    → Narrow (elim m [ Some w ↦ x w | None ↦ y ])
by_match (Some w) x y f g = f w refl
by_match None x y f g = g

one_narrow : (b : ℕ) (m : Mode) → Narrow (one b m)
unfolding written
one_narrow b m = omega arith

other_narrow : (t : List ℕ) → Narrow (other_step t)
unfolding other_step written
other_narrow t =
    by_test (eqb (first t) 0xCF && eqb (get_or t 1 0) 0x80) (token false 0xFF Plain 2) _ (omega arith) (by_test (eqb (first t) 0x3F) (one 0x99 Plain) (one (upper (first t)) Plain) (one_narrow 0x99 Plain) (one_narrow (upper (first t)) Plain))

module _ (s : Sets) (t : List ℕ) where
  token_narrow : (k u : ℕ) (m : Mode) → Takes t u → Narrow (token false k m u)
  unfolding written
  token_narrow k u m r = omega (arith, r.more)

  tsb_narrow : (k u : ℕ) → 2 ≤ u → Narrow (token true k Plain u)
  unfolding written
  tsb_narrow k u r = omega (arith, r)

  form_narrow : Narrow (form_step (lexicon s) t)
  unfolding form_step sign_step
  form_narrow =
      by_match (form_word s tsb_words v2_words t) (λ w. token false w.token (opened w.token) w.used) _
      (λ w e. let r = form_takes s tsb_words v2_words t e in token_narrow w.token w.used (opened w.token) (record { more = r.0; most = r.1 })) (
      by_match (word_in (lexicon s).operators t) (λ w. token false w.token Plain w.used) (other_step t)
      (λ w e. token_narrow w.token w.used Plain (word_takes false _ (operators_start (lexicon s) (document_proper s)) t e)) (other_narrow t))

  plain_narrow : Narrow (plain_step (lexicon s) t)
  unfolding plain_step
  plain_narrow =
      by_test (eqb (first t) 0x22) (one 0x22 String) _ (one_narrow _ _) (
      by_match (live_word s tsb_words t) (λ w. token true w.token Plain w.used) _ (λ w e. tsb_narrow w.token w.used (live_long s t e)) (
      by_match (plain_word s (lexicon s).v2 (lexicon s).basic35 t) (λ w. token false w.token (opened w.token) w.used) _
      (λ w e. token_narrow w.token w.used (opened w.token) (plain_word_takes (lexicon s) (document_proper s) t e)) form_narrow))

byte_narrow : (b : ℕ) → Narrow (string_byte b)
unfolding string_byte
byte_narrow b = by_test (eqb b 0x22) (one 0x22 Plain) (one (lettered b) String) (one_narrow _ _) (one_narrow _ _)

-- ---- where no } stands behind a *, no escape has a count

-- the same of what is left
repeat_behind : (b : ℕ) (s : List ℕ) → may_repeat (b ∷ s) ≡ false → may_repeat s ≡ false
unfolding may_repeat before front
repeat_behind b s e = go (eqb b 42) e
  where
    star : ℕ
    star = before (equals 42) s

    none : suc (length s) ≤ before (equals 0x7D) (b ∷ s) → may_repeat s ≡ false
    none h = le-ltb _ _ (rest (eqb b 0x7D) h)
      where
        rest : (x : Bool) → suc (length s) ≤ elim (not x) [ true ↦ suc (before (equals 0x7D) s) | false ↦ 0 ] → length (drop star s) ≤ before (equals 0x7D) (drop star s)
        rest true q = absurd (omega arith)
        rest false q =
            omega (arith, length-drop star s, front_drop (other (equals 0x7D)) star s (omega (arith, before_le (equals 42) s)))

    go : (x : Bool)
        → (let rest = drop (elim (not x) [ true ↦ suc star | false ↦ 0 ]) (b ∷ s) in ltb (before (equals 0x7D) rest) (length rest)) ≡ false → may_repeat s ≡ false
    go true f = none (ltb-false _ _ f)
    go false f = f

repeat_from : (at : ℕ) (s : List ℕ) → may_repeat s ≡ false → may_repeat (drop at s) ≡ false
repeat_from zero s e = e
repeat_from (suc at) [] e = e
repeat_from (suc at) (b ∷ s) e = repeat_from at s (repeat_behind b s e)

-- no * stands before the first }
unstarred : (s : List ℕ) → may_repeat s ≡ false → before (equals 0x7D) s < length s
    → before (equals 42) (take (before (equals 0x7D) s) s) ≡ length (take (before (equals 0x7D) s) s)
unfolding may_repeat before
unstarred s e h = go (dec_le close star)
  where
    close : ℕ
    close = before (equals 0x7D) s

    star : ℕ
    star = before (equals 42) s

    go : Dec (close ≤ star) → before (equals 42) (take close s) ≡ length (take close s)
    go (yes l) = omega (arith, before_take (equals 42) close s, length-take close s)
    go (no l) =
        let low : length (drop star s) ≤ before (equals 0x7D) (drop star s) = ltb-false _ _ e in
        absurd (omega (arith, low, length-drop star s, front_drop (other (equals 0x7D)) star s (omega arith)))

escaped_narrow : (n : ℕ) (x : Option Escape) → Often 1 x → Narrow (escaped n x)
unfolding escaped
escaped_narrow n (Some x) e = omega (arith, length_written (escaped n (Some x)), e)
escaped_narrow n None e = byte_narrow 0x7B

braced_narrow : (s : List ℕ) → may_repeat s ≡ false → Narrow (braced s (before (equals 0x7D) s))
unfolding braced
braced_narrow s e = go (ltb (before (equals 0x7D) s) (length s)) refl
  where
    go : (x : Bool) → ltb (before (equals 0x7D) s) (length s) ≡ x
        → Narrow (elim x [ true ↦ escaped (before (equals 0x7D) s) (escape_of (take (before (equals 0x7D) s) s)) | false ↦ string_byte 0x7B ])
    go true q = escaped_narrow (before (equals 0x7D) s) (escape_of (take (before (equals 0x7D) s) s)) (given_once _ (unstarred s e (ltb-true _ _ q)))
    go false q = byte_narrow 0x7B

string_narrow : (t : List ℕ) → may_repeat t ≡ false → Narrow (string_step t)
unfolding string_step
string_narrow [] e = byte_narrow 0
string_narrow (b ∷ s) e =
    by_test (eqb b 0x7B) (braced s (before (equals 0x7D) s)) (string_byte b) (braced_narrow s (repeat_behind b s e)) (byte_narrow b)

step_narrow : (s : Sets) (m : Mode) (t : List ℕ) → may_repeat t ≡ false → Narrow (crunch_step (lexicon s) m t)
unfolding crunch_step data_step data_quote_step
step_narrow s Plain t e = plain_narrow s t
step_narrow s String t e = string_narrow t e
step_narrow s Remark t e = one_narrow (first t) Remark
step_narrow s Data t e =
    by_test (eqb (first t) 0x22) (one 0x22 DataQuote) _ (one_narrow _ _)
    (by_test (eqb (first t) 0x3A) (one 0x3A Plain) (one (upper (first t)) Data) (one_narrow _ _) (one_narrow _ _))
step_narrow s DataQuote t e = by_test (eqb (first t) 0x22) (one 0x22 Data) (one (upper (first t)) DataQuote) (one_narrow _ _) (one_narrow _ _)

-- ---- the whole body

module _ (w : Sets) (s : List ℕ) (e : may_repeat s ≡ false) where
  abbrev Bounded : ℕ → Type 0
  Bounded n = (m : Mode) (at : ℕ) → length (drop at s) ≤ n → length (crunched_from (lexicon w) m (drop at s)) ≤ length (drop at s)

  bound_step : (n : ℕ) → Bounded n → (m : Mode) (at : ℕ) → length (drop at s) ≤ suc n → at < length s
      → length (crunched_from (lexicon w) m (drop at s)) ≤ length (drop at s)
  bound_step n f m at h q =
      let o = crunch_step (lexicon w) m (drop at s) in
      let some : 0 < length (drop at s) = omega (arith, length-drop at s) in
      let r : Takes (drop at s) o.used = step_takes (lexicon w) (document_proper w) m (drop at s) some in
      let next : drop o.used (drop at s) ≡ drop (at + o.used) s = drop-drop o.used at s in
      let split : crunched_from (lexicon w) m (drop at s) ≡ written o ++ crunched_from (lexicon w) o.mode (drop (at + o.used) s)
      = rw (← next) (body_step (lexicon w) (document_proper w) m (drop at s) some refl) in
      let more : length (crunched_from (lexicon w) o.mode (drop (at + o.used) s)) ≤ length (drop (at + o.used) s)
      = f o.mode (at + o.used) (omega (arith, length-drop (at + o.used) s, length-drop at s, r.more)) in
      omega (
        arith,
        ap length split,
        length-append (written o) (crunched_from (lexicon w) o.mode (drop (at + o.used) s)),
        more,
        step_narrow w m (drop at s) (repeat_from at s e),
        length-drop (at + o.used) s,
        length-drop at s,
        r.most,
      )

  bound_end : (m : Mode) (at : ℕ) → length s ≤ at → length (crunched_from (lexicon w) m (drop at s)) ≤ length (drop at s)
  bound_end m at l = rw (drop_of_length-le s l, body_end_lem (lexicon w) m) (omega arith)

  bound_from : (n : ℕ) → Bounded n
  bound_from zero m at h = bound_end m at (omega (arith, length-drop at s))
  bound_from (suc n) m at h = go (dec_lt at (length s)) (bound_from n)
    where
      go : Dec (at < length s) → Bounded n → length (crunched_from (lexicon w) m (drop at s)) ≤ length (drop at s)
      go (yes q) f = bound_step n f m at h q
      go (no q) f = bound_end m at (omega arith)

  pub body_bound : length (crunched_body (lexicon w) s) ≤ length s
  body_bound = bound_from (length s) Plain 0 (omega arith)

-- ---- as the code asks

module _ (s : List ℕ) {n : ℕ} where
  pub star_within : n ≡ before (equals 42) s → n ≤ length s
  star_within e = omega (arith, before_le (equals 42) s)

  pub repeat_told : {r : ℕ} → r ≡ before (equals 0x7D) (take (length s - n) (drop n s)) → n ≡ before (equals 42) s
      → ltb r (length (take (length s - n) (drop n s))) ≡ may_repeat s
  unfolding may_repeat
  repeat_told q e = rw (q, tail s n, e)
