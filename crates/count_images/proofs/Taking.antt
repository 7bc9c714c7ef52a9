-- One image taken: its mark, then its tokens' marks or that of a refused one.
-- Assumes nothing.
use Prim.Native.Nat.{ℕ}
use mathlib.Core.Path.{◌≡◌, refl, ap, ◌∙◌}
use mathlib.Core.List.{List, [], ◌∷◌, flat_map}
use native.Mathlib.Omega.{arith}
use Rattle.base_refusals.specs.Numbers.{Numbered}
use Rattle.base_refusals.specs.Answer.{Answer, done, refused, map_done, numbered, answered}
use Rattle.base_refusals.specs.declared.Refusal.{Refusal}
use Rattle.image_readers.specs.declared.By.TheVariants.{Terminators}
use Rattle.image_readers.specs.declared.Overview.{Overview}
use Rattle.base_refusals.specs.declared.Refusal.{Refusal}
use Rattle.std.specs.Prelude.{Result, Ok, Err}
use Rattle.image_readers.specs.Bodies.{bodies_from}
use Rattle.image_readers.specs.NumberedBody.{NumberedBody}
use Rattle.image_readers.specs.Lines.{overview_of, overview}
use Rattle.image_readers.specs.declared.Overview.{Overview}
use Rattle.image_readers.specs.Readers.{step_by}
use Rattle.base_refusals.proofs.Tight.{told_back}
use Rattle.image_readers.proofs.Reading.{overview_bodies}
use Rattle.count_tokens.specs.Tokens.{tokens_of, tokens_from, tokens_in}
use Rattle.count_images.specs.Tallies.{tally, added}
use Rattle.count_images.specs.Carried.{Kept, counted, counted_apart, with_marks}
use Rattle.count_images.specs.TallyHelpers.{Raisable, Tallied}
use Rattle.count_images.proofs.Tallying.{tally_on}
use Rattle.count_images.proofs.Raising.{raisable_less, raised}

pub once : {t : List ℕ} → Raisable 1048577 t → Raisable 1 t
once r = raisable_less r (omega arith)

module _ {t one : List ℕ} (k : ℕ) (r : Raisable 1048577 t) (e : one ≡ added t (tally (k ∷ []))) where
  pub room_left : Raisable 1048576 one
  room_left = rw e (raised (k ∷ []) r (omega arith))

  pub once_more : Raisable 1 one
  once_more = raisable_less room_left (omega arith)

-- ---- an image is read whole, or refused

module _ (image : List ℕ) where
  overview_by : {a : Answer (List NumberedBody)} → bodies_from (step_by Terminators) image 2 ≡ a → overview (step_by Terminators) image ≡ map_done (overview_of image) a
  overview_by f = overview_bodies (step_by Terminators) image ∙ ap (map_done (overview_of image)) f

  read_whole : {o : Overview} → overview (step_by Terminators) image ≡ done o → (ts : List ℕ) × tokens_in image ≡ done ts
  unfolding tokens_from
  read_whole e = go (bodies_from (step_by Terminators) image 2) refl
    where
      go : (a : Answer (List NumberedBody)) → bodies_from (step_by Terminators) image 2 ≡ a → (ts : List ℕ) × tokens_in image ≡ done ts
      go (done bs) f = (flat_map (λ (l : NumberedBody). tokens_of l.body) bs, ap (map_done _) f)
      go (refused n) f = let z : ◌≡◌ {A = ℕ} 0 1 = cc (overview_by f, e) in absurd (omega arith)

  read_refused : {n : Numbered} → overview (step_by Terminators) image ≡ refused n → tokens_in image ≡ refused n
  unfolding tokens_from
  read_refused {n} e = go (bodies_from (step_by Terminators) image 2) refl
    where
      go : (a : Answer (List NumberedBody)) → bodies_from (step_by Terminators) image 2 ≡ a → tokens_in image ≡ refused n
      go (done bs) f = let z : ◌≡◌ {A = ℕ} 0 1 = cc (overview_by f, e) in absurd (omega arith)
      go (refused m) f = ap (map_done _) f ∙ ap refused (cc (overview_by f, e))

module _ (t image : List ℕ) {one two : List ℕ} {r : Result Overview Refusal} (e : one ≡ added t (tally (0xCC ∷ []))) (d : answered r ≡ overview (step_by Terminators) image) where
  pub image_counted : {v : Overview} → r ≡ Ok v → Tallied (tokens_in image) one two
      → ◌≡◌ {A = Kept} (record { answer = done counted; totals = two }) (with_marks t (tokens_in image))
  image_counted is s =
      let w = read_whole image (told_back is d) in
      rw (w.1, s.is w.0 w.1, e, tally_on t (0xCC ∷ []) w.0)

  pub image_apart : {n : Refusal} → r ≡ Err n → two ≡ added one (tally (0xCD ∷ []))
      → ◌≡◌ {A = Kept} (record { answer = done (counted_apart (numbered n)); totals = two }) (with_marks t (tokens_in image))
  image_apart is s = rw (read_refused image (told_back is d), s, e, tally_on t (0xCC ∷ []) (0xCD ∷ []))
