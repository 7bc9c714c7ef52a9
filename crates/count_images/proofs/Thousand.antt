-- The totals of up to 1,000 images are totals: no count passes what they hold, so no sum overflows, and each call takes them.
-- Assumes nothing.
use Prim.Native.Nat.{ℕ, zero, suc, ◌+◌, ◌*◌, ◌-◌, ◌≤◌, ◌<◌}
use mathlib.Core.Path.{◌≡◌, refl, sym, ap, ◌∙◌}
use mathlib.Core.Bool.{Bool, true, false, cond}
use mathlib.Core.Logic.{◌⊎◌, inl, inr}
use mathlib.Core.List.{List, [], ◌∷◌, ◌++◌, flat_map, foldl, append-nil, append_assoc, Permᴰ}
use native.Mathlib.Omega.{arith}
use lib.Dec.{eqb, ltb}
use lib.ListN.{length, get_or, replicate, length-append}
use borrow.Author.Tests.{ne_eqb, eqb-true, ltb-true, le-ltb, le-leb, lt-leb}
use Rattle.base_refusals.specs.Answer.{Answer, done, refused, map_done}
use Rattle.base_refusals.specs.Numbers.{too_many_images}
use Rattle.image_readers.specs.declared.By.TheVariants.{Terminators}
use Rattle.image_readers.specs.declared.Line.{Line}
use Rattle.image_readers.specs.Bodies.{body_of, bodies_from}
use Rattle.image_readers.specs.NumberedBody.{NumberedBody}
use Rattle.image_readers.specs.Readers.{step_by}
use Rattle.image_readers.proofs.Equations.{LiesAt, by_lines}
use Rattle.image_readers.proofs.Reading.{body_length_lem}
use Rattle.image_readers.proofs.Steps.{by_sound}
use Rattle.word_tables.specs.Tsb.{tsb_id, tsb_text}
use Rattle.list_spelling.proofs.Spelling.{no_word}
use Rattle.image_units.specs.declared.Unit.{Unit}
use Rattle.image_units.specs.declared.Unit.TheVariants.{Char, Token, Token35, Pair, Lone, Remarked}
use Rattle.image_units.specs.Units.{units_of}
use Rattle.count_tokens.specs.Tokens.{count_rules, if_word, counted_as, tokens_of, tokens_from, tokens_in}
use Rattle.count_totals.specs.TokenTotals.{sum_below, tokens_sum, images_taken, images_refused}
use Rattle.count_images.specs.Tallies.{occurrences, occurrences_from, tally, added}
use Rattle.count_images.specs.Totals.{image_marks, totals_of}
use Rattle.count_images.specs.Carried.{counted, fate, with_image, joined}
use Rattle.count_images.proofs.Tallying.{occurrences_append, tally_length, tally_at, get_d_added}
use Rattle.count_tokens.proofs.UnitTokens.{below_or_not}
use Rattle.count_images.proofs.Bodies.{left_end, left_line, left_refused, few_tokens}
use Rattle.count_totals.proofs.Bounds.{AreTotals, totals_true}
use Rattle.count_images.proofs.Laws.{marks_of, totals_join, totals_in_any_order}
use Rattle.std.specs.Prelude.{Option, Some, None}

-- ---- every token stands below CC

module _ (k : ℕ) (h : 0xCC ≤ k) where
  other : (m : ℕ) → m < 0xCC → occurrences k (m ∷ []) ≡ 0
  unfolding occurrences
  other m l = let n : m ≡ k → ⊥ = λ e. omega arith in rw (ne_eqb m k n)

  unit_low : (u : Unit) → occurrences k (counted_as u) ≡ 0
  unfolding counted_as occurrences
  unit_low (Char b) = refl
  unit_low (Token b) = go (ltb b 0xCC) refl
    where
      go : (t : Bool) → ltb b 0xCC ≡ t → occurrences k (cond t (b ∷ []) []) ≡ 0
      go true e = other b (ltb-true b 0xCC e)
      go false e = refl
  unit_low (Token35 b) = refl
  unit_low (Pair b) = go (tsb_text b) refl (below_or_not (tsb_id b) 0x80)
    where
      go : (w : List ℕ) → tsb_text b ≡ w → (tsb_id b < 0x80) ⊎ (0x80 ≤ tsb_id b) → occurrences k (if_word w (tsb_id b)) ≡ 0
      go [] e c = refl
      go (x ∷ w) e (inl l) = other (tsb_id b) (omega arith)
      go (x ∷ w) e (inr l) = absurd (omega (arith, ap length (no_word b l refl), ap length e))
  unit_low Lone = refl
  unit_low (Remarked b) = refl

  none_in : {A : Type 0} (f : A → List ℕ) → ((x : A) → occurrences k (f x) ≡ 0) → (xs : List A) → occurrences k (flat_map f xs) ≡ 0
  unfolding flat_map occurrences
  none_in f none [] = refl
  none_in f none (x ∷ xs) = omega (arith, occurrences_append k (f x) (flat_map f xs), none x, none_in f none xs)

  body_low : (body : List ℕ) → occurrences k (tokens_of body) ≡ 0
  unfolding tokens_of
  body_low body = none_in counted_as unit_low (units_of count_rules body)

  tokens_low : (image : List ℕ) {ts : List ℕ} → tokens_in image ≡ done ts → occurrences k ts ≡ 0
  unfolding tokens_from
  tokens_low image {ts} e = go (bodies_from (step_by Terminators) image 2) e
    where
      go : (a : Answer (List NumberedBody)) → map_done (flat_map (λ (l : NumberedBody). tokens_of l.body)) a ≡ done ts → occurrences k ts ≡ 0
      go (done bs) f =
          let same : flat_map (λ (l : NumberedBody). tokens_of l.body) bs ≡ ts = cc in
          rw same at (none_in (λ (l : NumberedBody). tokens_of l.body) (λ l. body_low l.body) bs)
      go (refused n) f = let z : ◌≡◌ {A = ℕ} 0 1 = cc in absurd (omega arith)

-- ---- an image has no more tokens than bytes

module _ (image : List ℕ) where
  Few : ℕ → Type 0
  Few p = (ts : List ℕ) → tokens_from image p ≡ done ts → length ts ≤ 1048576 - p

  few_from : (p : ℕ) → Few p
  unfolding Few
  few_from = by_lines (by_sound Terminators) image Few (λ p ih. go p ih (step_by Terminators image p) refl)
    where
      behind : (p : ℕ) (l : Line) → LiesAt image p l → length image ≤ 1048576 → Few l.next → (a : Answer (List ℕ)) → tokens_from image l.next ≡ a
          → (ts : List ℕ) → map_done (λ us. tokens_of (body_of image l) ++ us) a ≡ done ts → length ts ≤ 1048576 - p
      behind p l d short few (done us) e ts f =
          let same : tokens_of (body_of image l) ++ us ≡ ts = cc in
          omega
          (arith, ap length same, length-append (tokens_of (body_of image l)) us, few us e, few_tokens (body_of image l), body_length_lem d, d.starts, d.runs, d.ends, d.within)
      behind p l d short few (refused n) e ts f = let z : ◌≡◌ {A = ℕ} 0 1 = cc in absurd (omega arith)

      go : (p : ℕ) → ((l : Line) → step_by Terminators image p ≡ done (Some l) → Few l.next) → (r : Answer (Option Line)) → step_by Terminators image p ≡ r → Few p
      go p ih (done (Some l)) e ts f =
          behind p l ((by_sound Terminators).lies image p e) ((by_sound Terminators).not_too_long image p e) (ih l e) (tokens_from image l.next) refl ts
          (sym (left_line image p e) ∙ f)
      go p ih (done None) e ts f = let none : ts ≡ [] = cc (left_end image p e) in omega (arith, ap length none)
      go p ih (refused n) e ts f = let z : ◌≡◌ {A = ℕ} 0 1 = cc (left_refused image p e) in absurd (omega arith)

  pub few_in : {ts : List ℕ} → tokens_in image ≡ done ts → length ts ≤ 1048576
  unfolding Few
  few_in {ts} e = omega (arith, few_from 2 ts e)

-- ---- sums

sum_alike : (n : ℕ) (f g : ℕ → ℕ) → ((k : ℕ) → k < n → f k ≡ g k) → sum_below n f ≡ sum_below n g
unfolding sum_below
sum_alike zero f g alike = refl
sum_alike (suc n) f g alike = omega (arith, sum_alike n f g (λ k h. alike k (omega arith)), alike n (omega arith))

sum_both : (n : ℕ) (f g : ℕ → ℕ) → sum_below n (λ k. f k + g k) ≡ sum_below n f + sum_below n g
unfolding sum_below
sum_both zero f g = refl
sum_both (suc n) f g = omega (arith, sum_both n f g)

-- one mark is at one place
mark_out : (n m : ℕ) → n ≤ m → sum_below n (λ k. cond (eqb m k) 1 0) ≡ 0
unfolding sum_below
mark_out zero m h = refl
mark_out (suc n) m h = let o : m ≡ n → ⊥ = λ e. omega arith in rw (ne_eqb m n o) (omega (arith, mark_out n m (omega arith)))

mark_once : (n m : ℕ) → sum_below n (λ k. cond (eqb m k) 1 0) ≤ 1
unfolding sum_below
mark_once zero m = omega arith
mark_once (suc n) m = go (mark_once n m) (eqb m n) refl
  where
    go : sum_below n (λ k. cond (eqb m k) 1 0) ≤ 1 → (b : Bool) → eqb m n ≡ b → sum_below n (λ k. cond (eqb m k) 1 0) + cond b 1 0 ≤ 1
    go before true e = let same : m ≡ n = eqb-true m n e in omega (arith, mark_out n m (omega arith))
    go before false e = omega arith

zeros : (n : ℕ) → sum_below n (λ k. 0) ≡ 0
unfolding sum_below
zeros zero = refl
zeros (suc n) = omega (arith, zeros n)

-- as many counts together as marks, or fewer where some stand at n or above
marks_sum : (n : ℕ) (ms : List ℕ) → sum_below n (λ k. occurrences k ms) ≤ length ms
unfolding occurrences
marks_sum n [] = omega (arith, zeros n)
marks_sum n (m ∷ ms) = omega (arith, sum_both n (λ k. cond (eqb m k) 1 0) (λ k. occurrences k ms), mark_once n m, marks_sum n ms)

-- ---- one image, and many

sum_tally : (ms : List ℕ) → tokens_sum (tally ms) ≡ sum_below 0xCC (λ k. occurrences k ms)
unfolding tokens_sum
sum_tally ms = sum_alike 0xCC (λ k. get_or (tally ms) k 0) (λ k. occurrences k ms) (λ k h. tally_at ms k (omega arith))

sum_added : (t u : List ℕ) → length t ≡ length u → tokens_sum (added t u) ≡ tokens_sum t + tokens_sum u
unfolding tokens_sum
sum_added t u h =
    sum_alike 0xCC (λ k. get_or (added t u) k 0) (λ k. get_or t k 0 + get_or u k 0) (λ k l. get_d_added t u k h)
    ∙ sum_both 0xCC (λ k. get_or t k 0) (λ k. get_or u k 0)

marks_above : (m : ℕ) (ms : List ℕ) → 0xCC ≤ m → sum_below 0xCC (λ k. occurrences k (m ∷ ms)) ≡ sum_below 0xCC (λ k. occurrences k ms)
unfolding occurrences
marks_above m ms h = omega (arith, sum_both 0xCC (λ k. cond (eqb m k) 1 0) (λ k. occurrences k ms), mark_out 0xCC m h)

-- what one image brings
record OneImage (t : List ℕ) : Type 0 where
  one : images_taken t ≡ 1
  some : images_refused t ≤ 1
  few : tokens_sum t ≤ 1048576

one_image : (image : List ℕ) → OneImage (tally (image_marks (tokens_in image)))
unfolding occurrences
one_image image = go (tokens_in image) refl
  where
    go : (a : Answer (List ℕ)) → tokens_in image ≡ a → OneImage (tally (image_marks a))
    go (done ts) e =
        record {
          one = tally_at (0xCC ∷ ts) 0xCC (omega arith) ∙ omega (arith, tokens_low 0xCC (omega arith) image e);
          some = omega (arith, tally_at (0xCC ∷ ts) 0xCD (omega arith), tokens_low 0xCD (omega arith) image e);
          few = omega (arith, sum_tally (0xCC ∷ ts), marks_above 0xCC ts (omega arith), marks_sum 0xCC ts, few_in image e);
        }
    go (refused n) e =
        record {
          one = tally_at (0xCC ∷ 0xCD ∷ []) 0xCC (omega arith);
          some = omega (arith, tally_at (0xCC ∷ 0xCD ∷ []) 0xCD (omega arith));
          few = omega (arith, sum_tally (0xCC ∷ 0xCD ∷ []), marks_sum 0xCC (0xCC ∷ 0xCD ∷ []));
        }

-- the totals of images, of any number
pub record Bounded (n : ℕ) (t : List ℕ) : Type 0 where
  pub long : length t ≡ 206
  pub taken : images_taken t ≡ n
  pub some : images_refused t ≤ n
  pub few : tokens_sum t ≤ 1048576 * n

totals_long : (images : List (List ℕ)) → length (totals_of images) ≡ 206
unfolding totals_of
totals_long images = tally_length (marks_of images)

-- one image's totals are its marks
totals_one : (image : List ℕ) → totals_of (image ∷ []) ≡ tally (image_marks (tokens_in image))
unfolding totals_of flat_map
totals_one image = ap tally (append-nil (image_marks (tokens_in image)))

none_at : (k : ℕ) → k < 206 → get_or (totals_of []) k 0 ≡ 0
unfolding totals_of flat_map occurrences
none_at k h = tally_at [] k h

none_sum : tokens_sum (totals_of []) ≡ 0
unfolding totals_of flat_map
none_sum = sum_tally [] ∙ omega (arith, marks_sum 0xCC [])

pub totals_bounded : (images : List (List ℕ)) → Bounded (length images) (totals_of images)
totals_bounded [] = none_bounded
  where
    none_bounded : Bounded 0 (totals_of [])
    none_bounded =
        record {
          long = totals_long [];
          taken = none_at 0xCC (omega arith);
          some = omega (arith, none_at 0xCD (omega arith));
          few = omega (arith, none_sum);
        }
totals_bounded (image ∷ images) =
    let one = one_image image in
    let many = totals_bounded images in
    let t = totals_of (image ∷ []) in
    let u = totals_of images in
    let same : length t ≡ length u = totals_long (image ∷ []) ∙ sym (totals_long images) in
    let e : added t u ≡ totals_of (image ∷ images) = totals_join (image ∷ []) images in
    let f : t ≡ tally (image_marks (tokens_in image)) = totals_one image in
    record {
      long = totals_long (image ∷ images);
      taken = omega (arith, ap images_taken e, get_d_added t u 0xCC same, ap images_taken f, one.one, many.taken);
      some = omega (arith, ap images_refused e, get_d_added t u 0xCD same, ap images_refused f, one.some, many.some);
      few = omega (arith, ap tokens_sum e, sum_added t u same, ap tokens_sum f, one.few, many.few);
    }

-- "exact counts over up to 1,000 images": their totals are totals, which each call takes
pub totals_are : (images : List (List ℕ)) → length images ≤ 1000 → AreTotals (totals_of images)
totals_are images h =
    let b = totals_bounded images in
    record { long = b.long; few = omega (arith, b.taken); some = omega (arith, b.taken, b.some); bounded = omega (arith, b.taken, b.few) }

-- one more image of at most 1,000: its marks on top are the totals of all
pub one_more : (images : List (List ℕ)) (image : List ℕ) → length images < 1000
    → with_image (totals_of images) image ≡ record { answer = done (fate (tokens_in image)); totals = totals_of (images ++ (image ∷ [])) }
unfolding with_image
one_more images image h =
    let few : images_taken (totals_of images) < 1000 = omega (arith, (totals_bounded images).taken) in
    rw (totals_true (totals_are images (omega arith)), lt-leb 1000 (images_taken (totals_of images)) few, ← totals_one image, totals_join images (image ∷ []))

-- 206 zeros, with which a caller begins, are the totals of no images
pub no_images : replicate 206 0 ≡ totals_of []
unfolding totals_of tally occurrences_from occurrences flat_map
no_images = refl

-- what calls leave, image by image
abbrev pub all_taken : List ℕ → List (List ℕ) → List ℕ
all_taken = foldl (λ (t image : List ℕ). (with_image t image).totals)

images_taken_lem : (xs ys : List (List ℕ)) → length xs + length ys ≤ 1000 → all_taken (totals_of xs) ys ≡ totals_of (xs ++ ys)
images_taken_lem xs [] h = ap totals_of (sym (append-nil xs))
images_taken_lem xs (y ∷ ys) h =
    rw (one_more xs y (omega arith), images_taken_lem (xs ++ (y ∷ [])) ys (simp length-append (omega arith)), append_assoc xs (y ∷ []) ys)

-- from 206 zeros on, images taken one after the other leave their totals
pub all_taken_lem : (images : List (List ℕ)) → length images ≤ 1000 → all_taken (replicate 206 0) images ≡ totals_of images
all_taken_lem images h = ap (λ (t : List ℕ). all_taken t images) no_images ∙ images_taken_lem [] images (omega arith)

-- "for up to 1,000 images, refused ones among them, their order is proved not to matter"
pub taken_in_any_order : {xs ys : List (List ℕ)} → Permᴰ xs ys → length xs ≤ 1000 → all_taken (replicate 206 0) xs ≡ all_taken (replicate 206 0) ys
taken_in_any_order {xs} {ys} p h =
    let e = totals_in_any_order p in
    let few : length ys ≤ 1000 = omega (arith, (totals_bounded xs).taken, (totals_bounded ys).taken, ap images_taken e) in
    all_taken_lem xs h ∙ e ∙ sym (all_taken_lem ys few)

-- "26 TooManyImages at the 1,001st, checked before the image itself, with all totals kept"
pub one_too_many : (images : List (List ℕ)) (image : List ℕ) → length images ≡ 1000
    → with_image (totals_of images) image ≡ record { answer = refused too_many_images; totals = totals_of images }
unfolding with_image
one_too_many images image h =
    let full : 1000 ≤ images_taken (totals_of images) = omega (arith, (totals_bounded images).taken) in
    rw (totals_true (totals_are images (omega arith)), le-leb 1000 (images_taken (totals_of images)) full)

-- the totals of two parts joined are the totals of both
pub parts_joined : (xs ys : List (List ℕ)) → length xs + length ys ≤ 1000
    → joined (totals_of xs) (totals_of ys) ≡ record { answer = done counted; totals = totals_of (xs ++ ys) }
unfolding joined
parts_joined xs ys h =
    let few : images_taken (totals_of xs) + images_taken (totals_of ys) ≤ 1000 = omega (arith, (totals_bounded xs).taken, (totals_bounded ys).taken) in
    rw (totals_true (totals_are xs (omega arith)), totals_true (totals_are ys (omega arith)), le-ltb 1000 (images_taken (totals_of xs) + images_taken (totals_of ys)) few, totals_join xs ys)
