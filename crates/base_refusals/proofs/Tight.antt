-- A refusal is known from its number and the values that it carries: so two answers with the same number and values are the same.
-- Assumes nothing.
use Prim.Native.Nat.{◌-◌}
use mathlib.Core.Path.{◌≡◌, refl, sym, ap, ◌∙◌}
use mathlib.Core.List.{[], ◌∷◌}
use lib.ListN.{get_or}
use Rattle.base_refusals.specs.Numbers.{Numbered}
use Rattle.std.specs.Prelude.{Result, Ok, Err}
use Rattle.base_refusals.specs.Answer.{Answer, done, refused, numbered, answered}
use Rattle.base_refusals.specs.declared.Refusal.{Refusal}
use Rattle.base_refusals.specs.declared.Refusal.TheVariants.{TextTooLong, BadByte, MissingLineNumber, LineNumberOutOfRange, AddressOverflow, NoRoom, ImageTooLong, TooShort, UnexpectedEof, MissingEnd, LinkBackward, LinkOutside, LinkNoEnd, UnknownDialect, NumberTooHigh, NotAscending, ZeroInBody, BodyLength, BadDisk, BadName, NameTaken, NoSuchFile, DirectoryFull, DiskFull, TooManyImages, TooManyLines, TargetTooHigh}

-- the refusal of a number and values
unfoldable pub named : Numbered → Refusal
named n =
    let a = get_or n.carries 0 0 in
    let b = get_or n.carries 1 0 in
    get_or
    (TextTooLong a ∷ BadByte a ∷ MissingLineNumber a ∷ LineNumberOutOfRange a b ∷ AddressOverflow ∷ NoRoom a ∷ ImageTooLong a ∷ TooShort ∷ UnexpectedEof ∷ MissingEnd a ∷ LinkBackward a ∷ LinkOutside a ∷ LinkNoEnd a ∷ UnknownDialect ∷ NumberTooHigh a ∷ NotAscending a ∷ ZeroInBody a ∷ BodyLength a ∷ UnknownDialect ∷ BadDisk ∷ BadName ∷ NameTaken ∷ NoSuchFile ∷ DirectoryFull ∷ DiskFull ∷ TooManyImages ∷ TooManyLines ∷ TargetTooHigh ∷ [])
    (n.number - 1)
    UnknownDialect

pub named_numbered : (r : Refusal) → named (numbered r) ≡ r
unfolding named
named_numbered (TextTooLong length) = refl
named_numbered (BadByte offset) = refl
named_numbered (MissingLineNumber line) = refl
named_numbered (LineNumberOutOfRange line value) = refl
named_numbered AddressOverflow = refl
named_numbered (NoRoom needed) = refl
named_numbered (ImageTooLong length) = refl
named_numbered TooShort = refl
named_numbered UnexpectedEof = refl
named_numbered (MissingEnd offset) = refl
named_numbered (LinkBackward offset) = refl
named_numbered (LinkOutside offset) = refl
named_numbered (LinkNoEnd offset) = refl
named_numbered UnknownDialect = refl
named_numbered (NumberTooHigh line) = refl
named_numbered (NotAscending line) = refl
named_numbered (ZeroInBody line) = refl
named_numbered (BodyLength line) = refl
named_numbered BadDisk = refl
named_numbered BadName = refl
named_numbered NameTaken = refl
named_numbered NoSuchFile = refl
named_numbered DirectoryFull = refl
named_numbered DiskFull = refl
named_numbered TooManyImages = refl
named_numbered TooManyLines = refl
named_numbered TargetTooHigh = refl

-- what has a left inverse tells its arguments apart
pub tells_apart : {A B : Type 0} (f : A → B) (g : B → A) → ((a : A) → g (f a) ≡ a) → (a b : A) → f a ≡ f b → a ≡ b
tells_apart f g inverse a b e = sym (inverse a) ∙ ap g e ∙ inverse b

pub numbered_tight : (r s : Refusal) → numbered r ≡ numbered s → r ≡ s
numbered_tight = tells_apart numbered named named_numbered

module _ {A : Type 0} where
  said : Answer A → Result A Refusal
  said (done a) = Ok a
  said (refused n) = Err (named n)

  said_answered : (r : Result A Refusal) → said (answered r) ≡ r
  unfolding said
  said_answered (Ok a) = refl
  said_answered (Err r) = ap Err (named_numbered r)

  -- two results that meet one promise are the same
  pub answered_tight : (a : Answer A) (r s : Result A Refusal) → answered r ≡ a → answered s ≡ a → r ≡ s
  answered_tight a r s p q = tells_apart answered said said_answered r s (p ∙ sym q)

  -- what a result is known to be, its answer is
  pub told : {r x : Result A Refusal} {a : Answer A} → r ≡ x → answered r ≡ a → answered x ≡ a
  told d e = ap answered (sym d) ∙ e

  pub told_back : {r x : Result A Refusal} {a : Answer A} → r ≡ x → answered r ≡ a → a ≡ answered x
  told_back d e = sym (told d e)

-- a result that holds a value, which is known to be another
pub inner : {A E : Type 0} {r : Result A E} {f a : A} → r ≡ Ok f → f ≡ a → r ≡ Ok a
inner is e = is ∙ ap Ok e
