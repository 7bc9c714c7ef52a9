-- What the machine makes of a program's links after loading it: the ROM's routine at 0xA533, as its public listings have it, over an image
-- that is loaded at its own address (document 02, No. 1: "its relinking skips the first body byte and counts in one byte").
--
-- It starts at the program's first address. A line whose link's high byte is 0 ends it. Else a count of one byte starts at 4 and is raised
-- by one until the byte at the line's address plus the count is 00: so the first byte of the body is skipped, and after 255 it comes
-- round to 0, to the line's own link and number. The count is raised once more, and the line's address plus the count, in 16 bits, is
-- stored as the new link, and is where it goes on. Memory is taken for plain bytes, also at 0000 and 0001, which are the processor's port.
-- Assumes nothing.
use Rattle.std.specs.Prelude.{ℕ, Result, Ok, Err, zero, suc, ◌+◌, ◌*◌, ◌-◌, ◌%◌, Bool, cond, ◌&&◌, List, eqb, ltb, length, get_or}
use Rattle.base_steps.specs.Again.{again}
use Rattle.base_refusals.specs.Answer.{Answer, done, refused, numbered}
use Rattle.base_refusals.specs.declared.Refusal.{Refusal}
use Rattle.image_bytes.specs.ImageBytes.{address_at}
use Rattle.image_readers.specs.Image.{sized}
use Rattle.image_relink.specs.declared.Zero.{Zero}
use Rattle.image_relink.specs.declared.Zero.TheVariants.{At, Outside as ZeroOutside, Nowhere}
use Rattle.image_relink.specs.declared.Passed.{Passed}
use Rattle.image_relink.specs.declared.Passed.TheVariants.{End, Kept as KeptLink, Changed as ChangedLink, Outside, Endless as EndlessLine}
use Rattle.image_relink.specs.declared.Relinked.{Relinked}
use Rattle.image_relink.specs.declared.Relinked.TheVariants.{Same, Changed, Leaves, Endless}

-- Memory has 65,536 bytes, and comes round from FFFF to 0, as the routine's addresses do: behind the last of them stands the image's own first
-- byte again. The offset of the byte of memory that an offset leads to.
abbrev pub come_round : ℕ → ℕ
come_round p = 2 + (p - 2) % 65536

-- the byte at an offset is the image's. An image of more than 65,536 bytes behind its load address would be loaded over its own beginning, so what
-- the routine meets is unknown.
unfoldable pub in_memory : List ℕ → ℕ → Bool
in_memory s p = ltb p (length s) && ltb (length s) 65539

-- the first count at which the line at p has a 00, from y on over n counts; `Nowhere` after all 256, which it goes through for ever
unfoldable pub zero_sought : List ℕ → ℕ → ℕ → ℕ → Zero
zero_sought s p zero y = Nowhere
zero_sought s p (suc n) y =
    cond (in_memory s (come_round (p + y)))
    (cond (eqb (get_or s (come_round (p + y)) 0) 0) (At y) (zero_sought s p n ((y + 1) % 256)))
    ZeroOutside

-- the line's address plus a count, in 16 bits
abbrev pub new_link : List ℕ → ℕ → ℕ → ℕ
new_link s p count = (address_at s p + count) % 65536

-- the line's old link
abbrev pub old_link : List ℕ → ℕ → ℕ
old_link s p = get_or s (come_round p) 0 + 256 * get_or s (come_round (p + 1)) 0

-- the new link is stored; where it is the old one, the routine goes on behind the line, or at the line itself for ever. A link that stays has a
-- high byte above 0, so the routine never goes on round the top (`kept_behind`, proofs/Following.antt). Where the old link's low byte is not the
-- image's, whether it stays is unknown.
unfoldable pub stored : List ℕ → ℕ → ℕ → Passed
stored s p count =
    cond (in_memory s (come_round p))
    (cond (eqb (new_link s p count) (old_link s p))
    (cond (eqb count 0) EndlessLine (KeptLink (p + count)))
    (ChangedLink (new_link s p count)))
    Outside

abbrev pub behind_zero : List ℕ → ℕ → Zero → Passed
behind_zero s p (At y) = stored s p ((y + 1) % 256)
behind_zero s p ZeroOutside = Outside
behind_zero s p Nowhere = EndlessLine

-- the line at p
unfoldable pub relink_step : List ℕ → ℕ → Passed
relink_step s p =
    cond (in_memory s (come_round (p + 1)))
    (cond (eqb (get_or s (come_round (p + 1)) 0) 0) End (behind_zero s p (zero_sought s p 256 5)))
    Outside

-- what becomes of a program
pub data Relinking : Type 0 where
  same : Relinking
  changed : ℕ → ℕ → Relinking
  leaves : Relinking
  endless : Relinking

-- a line, and what f answers where the routine goes on
abbrev pub relink_by : (ℕ → Relinking) → ℕ → Passed → Relinking
relink_by f p End = same
relink_by f p (KeptLink q) = f q
relink_by f p (ChangedLink link) = changed p link
relink_by f p Outside = leaves
relink_by f p EndlessLine = endless

abbrev pub relink_on : List ℕ → (ℕ → Relinking) → ℕ → Relinking
relink_on s f p = relink_by f p (relink_step s p)

-- from p on: each line that it passes has a higher address than the one before; `relink_from_lem` (proofs/Following.antt) is the equation without the
-- count
unfoldable pub relink_from : List ℕ → ℕ → Relinking
unfolding again
relink_from s p = again endless (relink_on s) 65537 p

unfoldable pub relinking : List ℕ → Answer Relinking
relinking s = sized s (done (relink_from s 2))

-- what the routine makes, or the refusal
abbrev pub relinked_answer : Result Relinked Refusal → Answer Relinking
relinked_answer (Ok Same) = done same
relinked_answer (Ok (Changed offset link)) = done (changed offset link)
relinked_answer (Ok Leaves) = done leaves
relinked_answer (Ok Endless) = done endless
relinked_answer (Err r) = refused (numbered r)
