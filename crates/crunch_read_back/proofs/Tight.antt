-- How tight the promises are (document 01): any two results, with the lent bytes afterwards, that meet the promise of `crunch_image::crunch`, of `crunch_image::room`,
-- of `crunch_image::measured_line` or of `crunch_and_read` are equal.
-- Assumes nothing.
use Prim.Native.Nat.{ℕ}
use mathlib.Core.Path.{◌≡◌, refl, sym, ap, ◌∙◌}
use mathlib.Core.List.{List}
use Rattle.std.specs.Prelude.{Option, Result, Ok, Err}
use Rattle.base_refusals.specs.Answer.{Answer, done, refused, answered}
use Rattle.base_lent.specs.Lent.{into_buffer, room_for, left}
use Rattle.base_refusals.proofs.Tight.{named, named_numbered, tells_apart, answered_tight}
use Rattle.base_lent.proofs.Tight.{lent_tight}
use Rattle.crunch_rules.specs.Crunched.{crunched}
use Rattle.crunch_rules.specs.Measured.{line_measured}
use Rattle.crunch_rules.specs.declared.MeasuredLine.{MeasuredLine}
use Rattle.crunch_rules.specs.declared.Options.{Options}
use Rattle.image_readers.specs.declared.Overview.{Overview}
use Rattle.crunch_read_back.specs.ReadingBack.{ImageRead, LentRead, reading_back, read_back_answer, left_read}
use Rattle.crunch_read_back.specs.declared.ReadBack.{ReadBack}
use Rattle.base_refusals.specs.declared.Refusal.{Refusal}

said : {A : Type 0} → Answer A → Result A Refusal
said (done a) = Ok a
said (refused m) = Err (named m)

said_back : {A : Type 0} (c : Result A Refusal) → said (answered c) ≡ c
unfolding said
said_back (Ok a) = refl
said_back (Err r) = ap Err (named_numbered r)

read_back_of : Answer ImageRead → Result ReadBack Refusal
unfolding said
read_back_of (done w) = Ok (record { length = w.size; read = said w.overview })
read_back_of (refused m) = Err (named m)

read_back_back : (r : Result ReadBack Refusal) → read_back_of (read_back_answer r) ≡ r
unfolding read_back_of
read_back_back (Ok b) = ap (λ (c : Result Overview Refusal). Ok (record { length = b.length; read = c })) (said_back b.read)
read_back_back (Err r) = ap Err (named_numbered r)

pub read_back_tight : (w : LentRead) (r s : Result ReadBack Refusal) (b c : List ℕ) → left_read r b ≡ w → left_read s c ≡ w → (r ≡ s) × (b ≡ c)
read_back_tight w r s b c p q = (
  tells_apart read_back_answer read_back_of read_back_back r s (ap (λ (x : LentRead). x.answer) (p ∙ sym q)),
  ap (λ (x : LentRead). x.buffer) (p ∙ sym q),
)

module _ (o : Options) (text : List ℕ) where
  -- `crunch_image::crunch`
  pub crunch_tight : (buffer : List ℕ) (r s : Result ℕ Refusal) (b c : List ℕ) → left r b ≡ into_buffer (crunched o text) buffer → left s c ≡ into_buffer (crunched o text) buffer
      → (r ≡ s) × (b ≡ c)
  crunch_tight buffer = lent_tight (into_buffer (crunched o text) buffer)

  -- `crunch_image::room`
  pub room_tight : (r s : Result ℕ Refusal) → answered r ≡ room_for (crunched o text) → answered s ≡ room_for (crunched o text) → r ≡ s
  room_tight = answered_tight (room_for (crunched o text))

  -- `crunch_image::measured_line`
  pub measured_line_tight : (place : ℕ) (r s : Result (Option MeasuredLine) Refusal) → answered r ≡ line_measured o place text → answered s ≡ line_measured o place text → r ≡ s
  measured_line_tight place = answered_tight (line_measured o place text)

  -- `crunch_read_back::crunch_and_read`
  pub crunch_and_read_tight : (buffer : List ℕ) (r s : Result ReadBack Refusal) (b c : List ℕ) → left_read r b ≡ reading_back (into_buffer (crunched o text) buffer)
      → left_read s c ≡ reading_back (into_buffer (crunched o text) buffer) → (r ≡ s) × (b ≡ c)
  crunch_and_read_tight buffer = read_back_tight (reading_back (into_buffer (crunched o text) buffer))
