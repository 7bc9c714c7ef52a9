-- `base_refusals::refusal_code` meets its contract: in each arm the case is known, and its numbers are the table's.
-- Assumes nothing.
use mathlib.Core.Path.{◌≡◌, refl, ap, sym, ◌∙◌}
use Rattle.base_refusals.specs.Answer.{numbered}
use Rattle.base_refusals.specs.Code.{code_of}
use Rattle.base_refusals.specs.declared.Code.{Code}
use Rattle.base_refusals.specs.declared.Refusal.{Refusal}
use Rattle.base_refusals.proofs.refusal_code.Goals as goal

-- what holds of the case that a refusal is, holds of the refusal
by-case : {r x : Refusal} {k : Code} → k ≡ code_of (numbered x) → r ≡ x → k ≡ code_of (numbered r)
by-case p e = p ∙ ap (λ (y : Refusal). code_of (numbered y)) (sym e)

pub returns-in-TextTooLong : goal.returns-in-TextTooLong
returns-in-TextTooLong c = by-case c.with_one.ensures c.in-TextTooLong.is

pub returns-in-BadByte : goal.returns-in-BadByte
returns-in-BadByte c = by-case c.with_one-in-BadByte.ensures c.in-BadByte.is

pub returns-in-MissingLineNumber : goal.returns-in-MissingLineNumber
returns-in-MissingLineNumber c = by-case c.with_one-in-MissingLineNumber.ensures c.in-MissingLineNumber.is

pub returns-in-LineNumberOutOfRange : goal.returns-in-LineNumberOutOfRange
returns-in-LineNumberOutOfRange c = rw c.wide.ensures (by-case refl c.in-LineNumberOutOfRange.is)

pub returns-in-AddressOverflow : goal.returns-in-AddressOverflow
returns-in-AddressOverflow c = by-case c.bare.ensures c.in-AddressOverflow.is

pub returns-in-NoRoom : goal.returns-in-NoRoom
returns-in-NoRoom c = by-case c.with_one-in-NoRoom.ensures c.in-NoRoom.is

pub returns-in-ImageTooLong : goal.returns-in-ImageTooLong
returns-in-ImageTooLong c = by-case c.with_one-in-ImageTooLong.ensures c.in-ImageTooLong.is

pub returns-in-TooShort : goal.returns-in-TooShort
returns-in-TooShort c = by-case c.bare-in-TooShort.ensures c.in-TooShort.is

pub returns-in-UnexpectedEof : goal.returns-in-UnexpectedEof
returns-in-UnexpectedEof c = by-case c.bare-in-UnexpectedEof.ensures c.in-UnexpectedEof.is

pub returns-in-MissingEnd : goal.returns-in-MissingEnd
returns-in-MissingEnd c = by-case c.with_one-in-MissingEnd.ensures c.in-MissingEnd.is

pub returns-in-LinkBackward : goal.returns-in-LinkBackward
returns-in-LinkBackward c = by-case c.with_one-in-LinkBackward.ensures c.in-LinkBackward.is

pub returns-in-LinkOutside : goal.returns-in-LinkOutside
returns-in-LinkOutside c = by-case c.with_one-in-LinkOutside.ensures c.in-LinkOutside.is

pub returns-in-LinkNoEnd : goal.returns-in-LinkNoEnd
returns-in-LinkNoEnd c = by-case c.with_one-in-LinkNoEnd.ensures c.in-LinkNoEnd.is

pub returns-in-UnknownDialect : goal.returns-in-UnknownDialect
returns-in-UnknownDialect c = by-case c.bare-in-UnknownDialect.ensures c.in-UnknownDialect.is

pub returns-in-NumberTooHigh : goal.returns-in-NumberTooHigh
returns-in-NumberTooHigh c = by-case c.with_one-in-NumberTooHigh.ensures c.in-NumberTooHigh.is

pub returns-in-NotAscending : goal.returns-in-NotAscending
returns-in-NotAscending c = by-case c.with_one-in-NotAscending.ensures c.in-NotAscending.is

pub returns-in-ZeroInBody : goal.returns-in-ZeroInBody
returns-in-ZeroInBody c = by-case c.with_one-in-ZeroInBody.ensures c.in-ZeroInBody.is

pub returns-in-BodyLength : goal.returns-in-BodyLength
returns-in-BodyLength c = by-case c.with_one-in-BodyLength.ensures c.in-BodyLength.is

pub returns-in-BadDisk : goal.returns-in-BadDisk
returns-in-BadDisk c = by-case c.bare-in-BadDisk.ensures c.in-BadDisk.is

pub returns-in-BadName : goal.returns-in-BadName
returns-in-BadName c = by-case c.bare-in-BadName.ensures c.in-BadName.is

pub returns-in-NameTaken : goal.returns-in-NameTaken
returns-in-NameTaken c = by-case c.bare-in-NameTaken.ensures c.in-NameTaken.is

pub returns-in-NoSuchFile : goal.returns-in-NoSuchFile
returns-in-NoSuchFile c = by-case c.bare-in-NoSuchFile.ensures c.in-NoSuchFile.is

pub returns-in-DirectoryFull : goal.returns-in-DirectoryFull
returns-in-DirectoryFull c = by-case c.bare-in-DirectoryFull.ensures c.in-DirectoryFull.is

pub returns-in-DiskFull : goal.returns-in-DiskFull
returns-in-DiskFull c = by-case c.bare-in-DiskFull.ensures c.in-DiskFull.is

pub returns-in-TooManyImages : goal.returns-in-TooManyImages
returns-in-TooManyImages c = by-case c.bare-in-TooManyImages.ensures c.in-TooManyImages.is

pub returns-in-TooManyLines : goal.returns-in-TooManyLines
returns-in-TooManyLines c = by-case c.bare-in-TooManyLines.ensures c.in-TooManyLines.is

pub returns-in-TargetTooHigh : goal.returns-in-TargetTooHigh
returns-in-TargetTooHigh c = by-case c.bare-in-TargetTooHigh.ensures c.in-TargetTooHigh.is
