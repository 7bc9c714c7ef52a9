-- What is told of a call with options: a dialect by its number, or the refusal of the number.
-- Assumes nothing.
use Prim.Native.Nat.{ℕ}
use mathlib.Core.Path.{◌≡◌, sym, ap, ◌∙◌}
use mathlib.Core.List.{List}
use Rattle.base_refusals.specs.Answer.{Answer, refused, numbered, and_then, answered}
use Rattle.base_refusals.specs.Code.{code_of, length_code}
use Rattle.base_refusals.specs.declared.Code.{Code}
use Rattle.base_refusals.specs.declared.Refusal.{Refusal}
use Rattle.base_lent.specs.Lent.{into_buffer, room_for, left}
use Rattle.word_dialects.specs.Dialects.{by_number}
use Rattle.word_dialects.specs.declared.Dialect.{Dialect}
use Rattle.list_options.specs.declared.ListOptions.{ListOptions}
use Rattle.list_image.specs.Listing.{listing_under}
use Rattle.crunch_rules.specs.declared.Options.{Options}
use Rattle.crunch_rules.specs.Crunched.{crunched}
use Rattle.library_numbers.specs.declared.CrunchNumbers.{CrunchNumbers}
use Rattle.library_numbers.specs.declared.ListNumbers.{ListNumbers}
use Rattle.library_numbers.specs.Choices.{crunch_options, list_options}
use Rattle.moldthatch.specs.Given.{crunched_with, listed_with}
use Rattle.moldthatch.specs.Told.{Told, told_code}
use Rattle.moldthatch.proofs.Telling.{tells, tells_room, tells_refused, tells_refused_room}
use Rattle.std.specs.Prelude.{Result}
use Rattle.std.specs.Prelude.{Ok, Err}

-- what is asked of a dialect, or the refusal of its number
module _ {A : Type 0} (f : Dialect → Answer A) (number : ℕ) {n : (Result Dialect Refusal)} (answer : answered n ≡ by_number number) where
  asked : {m : (Result Dialect Refusal)} → n ≡ m → and_then (answered m) f ≡ and_then (by_number number) f
  asked e = ap (λ (a : Answer Dialect). and_then a f) (ap answered (sym e) ∙ answer)

  pub of_known : {d : Dialect} → n ≡ Ok d → f d ≡ and_then (by_number number) f
  of_known e = asked e

  pub of_unknown : {r : Refusal} → n ≡ Err r → refused (numbered r) ≡ and_then (by_number number) f
  of_unknown e = asked e

-- ---- crunching and listing with options

module _ (g : CrunchNumbers) (text : List ℕ) {n : (Result Dialect Refusal)} (answer : answered n ≡ by_number g.dialect) where
  module _ {d : Dialect} (e : n ≡ Ok d) {p : Options} (is : p ≡ crunch_options g d) where
    image_is : crunched p text ≡ crunched_with g text
    image_is = ap (λ (x : Options). crunched x text) is ∙ of_known (λ x. crunched (crunch_options g x) text) g.dialect answer e

    module _ (o : Result ℕ Refusal) {c : Code} (code : c ≡ length_code (answered o)) where
      pub tells_image : (buffer : List ℕ) {b : List ℕ} → left o b ≡ into_buffer (crunched p text) buffer → ◌≡◌ {A = Told} (record { code = c; buffer = b }) (told_code (into_buffer (crunched_with g text) buffer))
      tells_image buffer q = tells o code (q ∙ ap (λ (a : Answer (List ℕ)). into_buffer a buffer) image_is)

      pub tells_image_room : answered o ≡ room_for (crunched p text) → c ≡ length_code (room_for (crunched_with g text))
      tells_image_room q = tells_room o code (q ∙ ap room_for image_is)

  pub tells_unknown : {r : Refusal} → n ≡ Err r → {c : Code} → c ≡ code_of (numbered r) → (buffer : List ℕ) → ◌≡◌ {A = Told} (record { code = c; buffer = buffer }) (told_code (into_buffer (crunched_with g text) buffer))
  tells_unknown {r} e code buffer = tells_refused r code buffer (of_unknown (λ d. crunched (crunch_options g d) text) g.dialect answer e)

  pub tells_unknown_room : {r : Refusal} → n ≡ Err r → {c : Code} → c ≡ code_of (numbered r) → c ≡ length_code (room_for (crunched_with g text))
  tells_unknown_room {r} e code = tells_refused_room r code (of_unknown (λ d. crunched (crunch_options g d) text) g.dialect answer e)

module _ (g : ListNumbers) (image : List ℕ) {n : (Result Dialect Refusal)} (answer : answered n ≡ by_number g.dialect) where
  module _ {d : Dialect} (e : n ≡ Ok d) {p : ListOptions} (is : p ≡ list_options g d) where
    listing_is : listing_under p image ≡ listed_with g image
    listing_is = ap (λ (x : ListOptions). listing_under x image) is ∙ of_known (λ x. listing_under (list_options g x) image) g.dialect answer e

    module _ (o : Result ℕ Refusal) {c : Code} (code : c ≡ length_code (answered o)) where
      pub tells_listing : (buffer : List ℕ) {b : List ℕ} → left o b ≡ into_buffer (listing_under p image) buffer → ◌≡◌ {A = Told} (record { code = c; buffer = b }) (told_code (into_buffer (listed_with g image) buffer))
      tells_listing buffer q = tells o code (q ∙ ap (λ (a : Answer (List ℕ)). into_buffer a buffer) listing_is)

      pub tells_listing_room : answered o ≡ room_for (listing_under p image) → c ≡ length_code (room_for (listed_with g image))
      tells_listing_room q = tells_room o code (q ∙ ap room_for listing_is)

  pub tells_unlisted : {r : Refusal} → n ≡ Err r → {c : Code} → c ≡ code_of (numbered r) → (buffer : List ℕ) → ◌≡◌ {A = Told} (record { code = c; buffer = buffer }) (told_code (into_buffer (listed_with g image) buffer))
  tells_unlisted {r} e code buffer = tells_refused r code buffer (of_unknown (λ d. listing_under (list_options g d) image) g.dialect answer e)

  pub tells_unlisted_room : {r : Refusal} → n ≡ Err r → {c : Code} → c ≡ code_of (numbered r) → c ≡ length_code (room_for (listed_with g image))
  tells_unlisted_room {r} e code = tells_refused_room r code (of_unknown (λ d. listing_under (list_options g d) image) g.dialect answer e)
