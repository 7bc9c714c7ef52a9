-- What a listing by links shows of a text's image: every nonblank line, with its whole body. By terminators a body is listed up to its first 00.
-- Assumes nothing.
use Prim.Native.Nat.{ℕ, ◌≤◌}
use mathlib.Core.Path.{◌≡◌, sym, ap, ◌∙◌}
use mathlib.Core.Bool.{Bool}
use mathlib.Core.List.{List}
use native.Mathlib.Omega.{arith}
use Rattle.base_refusals.specs.Answer.{done, map_done}
use Rattle.word_dialects.specs.declared.Dialect.{Dialect}
use Rattle.image_readers.specs.declared.By.{By}
use Rattle.image_readers.specs.declared.By.TheVariants.{Terminators, Links}
use Rattle.image_readers.specs.NumberedBody.{NumberedBody}
use Rattle.image_readers.specs.Bodies.{bodies_of}
use Rattle.image_readers.specs.Readers.{step_by}
use Rattle.image_layout.specs.Layout.{image_of}
use Rattle.image_layout.specs.Reads.{NoZeros}
use Rattle.list_image.specs.Listing.{lines_listing, listing_by, listing_under}
use Rattle.list_options.specs.Modes.{rules_under}
use Rattle.list_options.specs.declared.ListOptions.{ListOptions}
use Rattle.crunch_rules.specs.Crunched.{crunched_lines, crunched}
use Rattle.crunch_rules.specs.declared.Options.{Options}
use Rattle.crunch_read_back.specs.ReadsBack.{ReadsBack}
use Rattle.crunch_read_back.proofs.Demand.{demand_three, read_back_terminators}

-- the listing of an image that a reader reads as these lines
listed : (o : Options) (text : List ℕ) {ls : List NumberedBody} {image : List ℕ} (l : ListOptions) → crunched o text ≡ done image → ReadsBack (step_by l.by) o text ls
    → listing_under l image ≡ done (lines_listing (rules_under l) ls)
unfolding listing_under listing_by
listed o text {ls} {image} l is r =
    let s : image ≡ image_of o.load ls = cc (is, r.image) in
    ap (map_done (lines_listing (rules_under l))) (ap (bodies_of (step_by l.by)) s ∙ r.reads.bodies)

module _ (o : Options) (text : List ℕ) {ls : List NumberedBody} {image : List ℕ} (low : o.load ≤ 0xFFFF) (up : 0x0100 ≤ o.load)
    (e : crunched_lines o text ≡ done ls) (is : crunched o text ≡ done image) (d : Dialect) (remarks : Bool) where
  abbrev options : By → ListOptions
  options by = record { dialect = d; remarks = remarks; by = by }

  -- by links, whatever the bodies hold
  pub listed_by_links : listing_under (options Links) image ≡ done (lines_listing (rules_under (options Links)) ls)
  unfolding step_by
  listed_by_links = listed o text (options Links) is (demand_three o text low e up)

  -- by terminators, where no body holds a zero: the same listing
  pub listed_alike : NoZeros ls → listing_under (options Terminators) image ≡ listing_under (options Links) image
  unfolding step_by
  listed_alike none = listed o text (options Terminators) is (read_back_terminators o text low e (omega arith) none) ∙ sym listed_by_links
