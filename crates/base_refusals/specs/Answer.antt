-- What a call answers: a result, or a refusal with document 01's number and values.
-- Assumes nothing.
use Rattle.std.specs.Prelude.{Result, Ok, Err}
use Rattle.base_refusals.specs.Numbers.{Numbered, text_too_long, bad_byte, missing_line_number, line_number_out_of_range, address_overflow, no_room, image_too_long, too_short, unexpected_eof, missing_end, link_backward, link_outside, link_no_end, unknown_dialect, line_number_too_high, not_ascending, zero_in_body, body_length, bad_disk, bad_name, name_taken, no_such_file, directory_full, disk_full, too_many_images, too_many_lines, target_too_high}
use Rattle.base_refusals.specs.declared.Refusal.{Refusal}
use Rattle.base_refusals.specs.declared.Refusal.TheVariants.{TextTooLong, BadByte, MissingLineNumber, LineNumberOutOfRange, AddressOverflow, NoRoom, ImageTooLong, TooShort, UnexpectedEof, MissingEnd, LinkBackward, LinkOutside, LinkNoEnd, UnknownDialect, NumberTooHigh, NotAscending, ZeroInBody, BodyLength, BadDisk, BadName, NameTaken, NoSuchFile, DirectoryFull, DiskFull, TooManyImages, TooManyLines, TargetTooHigh}

pub data Answer (A : Type 0) : Type 0 where
  done : A → Answer A
  refused : Numbered → Answer A

-- the number and the values of each case of the enum
abbrev pub numbered : Refusal → Numbered
numbered (TextTooLong length) = text_too_long length
numbered (BadByte offset) = bad_byte offset
numbered (MissingLineNumber line) = missing_line_number line
numbered (LineNumberOutOfRange line value) = line_number_out_of_range line value
numbered AddressOverflow = address_overflow
numbered (NoRoom needed) = no_room needed
numbered (ImageTooLong length) = image_too_long length
numbered TooShort = too_short
numbered UnexpectedEof = unexpected_eof
numbered (MissingEnd offset) = missing_end offset
numbered (LinkBackward offset) = link_backward offset
numbered (LinkOutside offset) = link_outside offset
numbered (LinkNoEnd offset) = link_no_end offset
numbered UnknownDialect = unknown_dialect
numbered (NumberTooHigh line) = line_number_too_high line
numbered (NotAscending line) = not_ascending line
numbered (ZeroInBody line) = zero_in_body line
numbered (BodyLength line) = body_length line
numbered BadDisk = bad_disk
numbered BadName = bad_name
numbered NameTaken = name_taken
numbered NoSuchFile = no_such_file
numbered DirectoryFull = directory_full
numbered DiskFull = disk_full
numbered TooManyImages = too_many_images
numbered TooManyLines = too_many_lines
numbered TargetTooHigh = target_too_high

-- what a call's Result says
abbrev pub answered : {A : Type 0} → Result A Refusal → Answer A
answered (Ok a) = done a
answered (Err r) = refused (numbered r)

-- the same refusal, or the result taken further
abbrev pub map_done : {A B : Type 0} → (A → B) → Answer A → Answer B
map_done f (done a) = done (f a)
map_done f (refused n) = refused n

abbrev pub and_then : {A B : Type 0} → Answer A → (A → Answer B) → Answer B
and_then (done a) f = f a
and_then (refused n) f = refused n
