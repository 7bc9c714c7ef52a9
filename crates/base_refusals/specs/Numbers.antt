-- Document 01, "Numbers of refusal": the table, a line for each row.
-- Assumes nothing.
use Rattle.std.specs.Prelude.{ℕ, List, [], ◌∷◌}

-- a refusal: its number, and the values that it carries, in the order of the table
pub record Numbered : Type 0 where
  pub number : ℕ
  pub carries : List ℕ

abbrev pub text_too_long : ℕ → Numbered
text_too_long length = record { number = 1; carries = length ∷ [] }

-- the offset of the first byte outside the domain
abbrev pub bad_byte : ℕ → Numbered
bad_byte offset = record { number = 2; carries = offset ∷ [] }

-- the text line from 1, blank lines counted
abbrev pub missing_line_number : ℕ → Numbered
missing_line_number line = record { number = 3; carries = line ∷ [] }

abbrev pub line_number_out_of_range : ℕ → ℕ → Numbered
line_number_out_of_range line value = record { number = 4; carries = line ∷ value ∷ [] }

abbrev pub address_overflow : Numbered
address_overflow = record { number = 5; carries = [] }

abbrev pub no_room : ℕ → Numbered
no_room needed = record { number = 6; carries = needed ∷ [] }

abbrev pub image_too_long : ℕ → Numbered
image_too_long length = record { number = 7; carries = length ∷ [] }

abbrev pub too_short : Numbered
too_short = record { number = 8; carries = [] }

abbrev pub unexpected_eof : Numbered
unexpected_eof = record { number = 9; carries = [] }

-- the offset of the link, in this and the next three
abbrev pub missing_end : ℕ → Numbered
missing_end offset = record { number = 10; carries = offset ∷ [] }

abbrev pub link_backward : ℕ → Numbered
link_backward offset = record { number = 11; carries = offset ∷ [] }

abbrev pub link_outside : ℕ → Numbered
link_outside offset = record { number = 12; carries = offset ∷ [] }

abbrev pub link_no_end : ℕ → Numbered
link_no_end offset = record { number = 13; carries = offset ∷ [] }

abbrev pub unknown_dialect : Numbered
unknown_dialect = record { number = 14; carries = [] }

-- Document 02, No. 1: the machine profile. "Each with that line": the text line from 1.

abbrev pub line_number_too_high : ℕ → Numbered
line_number_too_high line = record { number = 15; carries = line ∷ [] }

abbrev pub not_ascending : ℕ → Numbered
not_ascending line = record { number = 16; carries = line ∷ [] }

abbrev pub zero_in_body : ℕ → Numbered
zero_in_body line = record { number = 17; carries = line ∷ [] }

abbrev pub body_length : ℕ → Numbered
body_length line = record { number = 18; carries = line ∷ [] }

-- Document 02, No. 9: programs onto disk images. The six carry nothing.

abbrev pub bad_disk : Numbered
bad_disk = record { number = 20; carries = [] }

abbrev pub bad_name : Numbered
bad_name = record { number = 21; carries = [] }

abbrev pub name_taken : Numbered
name_taken = record { number = 22; carries = [] }

abbrev pub no_such_file : Numbered
no_such_file = record { number = 23; carries = [] }

abbrev pub directory_full : Numbered
directory_full = record { number = 24; carries = [] }

abbrev pub disk_full : Numbered
disk_full = record { number = 25; carries = [] }

-- Document 02, No. 12: counts over images. "26 TooManyImages at the 1,001st", which carries nothing.

abbrev pub too_many_images : Numbered
too_many_images = record { number = 26; carries = [] }

-- Document 02, No. 13: a line index beside the image. Both carry nothing.

abbrev pub too_many_lines : Numbered
too_many_lines = record { number = 27; carries = [] }

abbrev pub target_too_high : Numbered
target_too_high = record { number = 28; carries = [] }
