-- `list_bytes::byte_to_string` meets its contract: the arm that was taken says which case of the definition holds.
-- Assumes nothing.
use Rattle.std.proofs.Common.{◌≡◌, ◌/◌, ◌%◌, arith}
use Rattle.std.proofs.lemmas.Bool.Decides.{nat_tests}
use Rattle.base_ascii.specs.Bytes.{between}
use Rattle.list_bytes.specs.ByteTexts.{byte_text, hex_byte}
use Rattle.list_bytes.proofs.byte_to_string.Goals as goal

pub returns-in-0 : goal.returns-in-0
unfolding byte_text between
returns-in-0 c = rw c.in-0.is

pub returns-in-13 : goal.returns-in-13
unfolding byte_text between
returns-in-13 c = grind (arith, nat_tests)

pub returns-in-96 : goal.returns-in-96
unfolding byte_text between
returns-in-96 c = rw c.in-96.is

pub returns-in-32-to-95 : goal.returns-in-32-to-95
unfolding byte_text between
returns-in-32-to-95 c = grind (arith, nat_tests)

pub returns-in-193-to-218 : goal.returns-in-193-to-218
unfolding byte_text between
returns-in-193-to-218 c = grind (arith, nat_tests)

pub returns-in_default : goal.returns-in_default
unfolding byte_text between hex_byte
returns-in_default c =
    let d : c.args.b / 16 % 16 ≡ c.args.b / 16 = omega (arith, c.ranges.b.fits) in
    let f : c.args.b % 16 % 16 ≡ c.args.b % 16 = omega arith in
    rw (c.hex_digit-high.ensures, c.hex_digit-low.ensures, d, f) (grind (arith, nat_tests))
