-- How tight the promise is (document 01): any two results that meet it are equal.
-- Assumes nothing.
use Prim.Native.Nat.{ℕ}
use Rattle.std.specs.Prelude.{Result, Ok, Err}
use mathlib.Core.Path.{◌≡◌, refl, sym, ap, ◌∙◌}
use mathlib.Core.Bool.{Bool, true, false}
use mathlib.Core.List.{List}
use lib.Dec.{eqb}
use Rattle.base_refusals.specs.Numbers.{Numbered}
use Rattle.base_refusals.specs.Answer.{Answer, done, refused, numbered}
use Rattle.base_refusals.specs.declared.Refusal.{Refusal}
use Rattle.base_refusals.specs.declared.Refusal.TheVariants.{TextTooLong, BadByte, MissingLineNumber, LineNumberOutOfRange, AddressOverflow, NoRoom, ImageTooLong, TooShort, UnexpectedEof, MissingEnd, LinkBackward, LinkOutside, LinkNoEnd, UnknownDialect, NumberTooHigh, NotAscending, ZeroInBody, BodyLength, BadDisk, BadName, NameTaken, NoSuchFile, DirectoryFull, DiskFull, TooManyImages, TooManyLines, TargetTooHigh}
use Rattle.base_refusals.proofs.Tight.{named, named_numbered, tells_apart}
use Rattle.image_find.specs.declared.Sought.{Sought}
use Rattle.image_find.specs.declared.Sought.TheVariants.{Found, Nowhere, LimitReached}
use Rattle.image_find.specs.Sought.{Visit, at, nowhere, line_sought, sought_answer}

-- 19 is the limit, any other number a refusal's
by_number : Numbered → Bool → Result Sought Refusal
by_number n true = Ok LimitReached
by_number n false = Err (named n)

sought_of : Answer Visit → Result Sought Refusal
sought_of (done (at v l)) = Ok (Found v l)
sought_of (done (nowhere v)) = Ok (Nowhere v)
sought_of (refused n) = by_number n (eqb n.number 19)

-- no refusal of the enum has number 19
other_number : (r : Refusal) → eqb (numbered r).number 19 ≡ false
other_number (TextTooLong length) = refl
other_number (BadByte offset) = refl
other_number (MissingLineNumber line) = refl
other_number (LineNumberOutOfRange line value) = refl
other_number AddressOverflow = refl
other_number (NoRoom needed) = refl
other_number (ImageTooLong length) = refl
other_number TooShort = refl
other_number UnexpectedEof = refl
other_number (MissingEnd offset) = refl
other_number (LinkBackward offset) = refl
other_number (LinkOutside offset) = refl
other_number (LinkNoEnd offset) = refl
other_number UnknownDialect = refl
other_number (NumberTooHigh line) = refl
other_number (NotAscending line) = refl
other_number (ZeroInBody line) = refl
other_number (BodyLength line) = refl
other_number BadDisk = refl
other_number BadName = refl
other_number NameTaken = refl
other_number NoSuchFile = refl
other_number DirectoryFull = refl
other_number DiskFull = refl
other_number TooManyImages = refl
other_number TooManyLines = refl
other_number TargetTooHigh = refl

sought_back : (r : Result Sought Refusal) → sought_of (sought_answer r) ≡ r
unfolding sought_of by_number
sought_back (Ok (Found v l)) = refl
sought_back (Ok (Nowhere v)) = refl
sought_back (Ok LimitReached) = refl
sought_back (Err r) = ap (by_number (numbered r)) (other_number r) ∙ ap Err (named_numbered r)

-- `find_line`
pub sought_tight : (number limit : ℕ) (s : List ℕ) (a b : Result Sought Refusal) → sought_answer a ≡ line_sought number limit s → sought_answer b ≡ line_sought number limit s → a ≡ b
sought_tight number limit s a b d e = tells_apart sought_answer sought_of sought_back a b (d ∙ sym e)
