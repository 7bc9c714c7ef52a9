-- The bound of an image's length: the loop over a text.
-- Assumes nothing.
use Prim.Native.Nat.{ℕ, suc, ◌+◌, ◌-◌, ◌≤◌, ◌<◌}
use mathlib.Core.Path.{◌≡◌, refl, sym, ap, ◌∙◌}
use mathlib.Core.Bool.{Bool, true, false}
use mathlib.Core.List.{List, [], ◌∷◌}
use native.Mathlib.Omega.{arith}
use lib.Dec.{leb}
use lib.ListN.{length}
use borrow.Author.Tests.{leb-true}
use mir.Syntax.{w16}
use mir.Val.{Fits}
use Rattle.base_refusals.specs.Answer.{Answer, done, refused, map_done}
use Rattle.text_lines.specs.declared.TextLine.{TextLine}
use Rattle.text_lines.specs.declared.LineRule.TheVariants.{AfterCr}
use Rattle.text_lines.specs.SplitHelpers.{line_from}
use Rattle.text_lines.specs.TextLines.{text_lines}
use Rattle.text_lines.proofs.Splitting.{line_behind_lem}
use Rattle.body_rules.specs.Lexicon.{Lexicon}
use Rattle.image_readers.specs.NumberedBody.{NumberedBody}
use Rattle.image_layout.specs.Layout.{link_of, end_address, image_of}
use Rattle.image_layout.proofs.Laying.{image_length, end_above}
use Rattle.crunch_profile.specs.Profile.{least_behind}
use Rattle.crunch_rules.specs.Crunched.{text_line, crunch_lines}
use Rattle.crunch_rules.specs.PassesHelpers.{text_image, given}
use Rattle.crunch_sizes.specs.SizeHelpers.{Bounded}
use Rattle.crunch_image.specs.CallHelpers.{FitsIf}
use Rattle.crunch_rules.proofs.Lining.{Taken, link_fits, given_is, text_blank, plain_under}
use Rattle.crunch_rules.proofs.Reaching.{Reached, reached_start, reached_turn, reached_end, line_at, line_behind}

end_mono : (a b : ℕ) (ls : List NumberedBody) → a ≤ b → end_address a ls ≤ end_address b ls
unfolding end_address
end_mono a b [] h = h
end_mono a b (l ∷ ls) h = end_mono (link_of a l.body) (link_of b l.body) ls (omega arith)

-- the lines before a text line reach up to an address that is at most this one
pub record BoundTo (words : Lexicon) (load : ℕ) (text : List ℕ) (at bound : ℕ) : Type 0 where
  pub k : ℕ
  pub least : ℕ
  pub address : ℕ
  pub reached : Reached false words load text at k least address
  pub below : address ≤ bound
  pub high : bound ≤ 0xFFFF

pub bound_start : (words : Lexicon) (load : ℕ) (text : List ℕ) → Fits w16 load → BoundTo words load text 0 load
bound_start words load text f =
    record { k = 0; least = 0; address = load; reached = reached_start false words load text (omega (arith, f.fits)); below = omega arith; high = omega (arith, f.fits) }

module _ {words : Lexicon} {load : ℕ} {text : List ℕ} {at bound : ℕ} (g : BoundTo words load text at bound) where
  pub bound_low : load ≤ bound
  bound_low = omega (arith, g.reached.stands, end_above load g.reached.before, g.below)

  module _ {r : TextLine} (is : r ≡ line_from AfterCr text at) (h : at < length text) {next : ℕ} (b : Bounded words bound (line_behind text r) next) (q : next ≤ 0xFFFF) where
    abbrev new : List NumberedBody
    new = given (text_line words 0 (line_behind text r))

    not_above : end_address g.address new ≤ next
    not_above = omega (arith, end_mono g.address bound new g.below, b.below q)

    gives_new : text_line words (suc g.k) (line_at text at r) ≡ done new
    gives_new =
        let k = suc g.k in
        sym (line_behind_lem (text_line words k) (text_blank words k) AfterCr text at is)
        ∙ b.gives q k
        ∙ ap done (sym (given_is words (line_behind text r) k (b.gives q k)))

    taken_here : Taken false words (suc g.k) g.least g.address (line_at text at r) (end_address g.address new)
    taken_here =
        let low : end_address g.address new ≤ 0xFFFF = omega (arith, not_above, q) in
        record { new = new; line_is = plain_under false words (suc g.k) g.least (line_at text at r) gives_new; link_is = link_fits g.address new low; next_is = refl; high = low }

    pub bound_turn : BoundTo words load text r.next next
    unfolding taken_here
    bound_turn = record { k = g.k + 1; least = least_behind g.least new; address = end_address g.address new; reached = reached_turn g.reached h is taken_here; below = not_above; high = q }

  pub bound_end : (room : ℕ) → length text ≤ at → FitsIf (leb (bound - load + 4) room) room (text_image false words load text)
  unfolding text_image
  bound_end room h = go (leb (bound - load + 4) room) refl (crunch_lines false words 1 0 load (text_lines AfterCr text)) (reached_end g.reached h)
    where
      go : (b : Bool) → leb (bound - load + 4) room ≡ b → (a : Answer (List NumberedBody)) → done g.reached.before ≡ a → FitsIf b room (map_done (image_of load) a)
      go false t a e = tt
      go true t (done ls) e =
          let same : g.reached.before ≡ ls = cc in
          omega (
            arith,
            leb-true (bound - load + 4) room t,
            ap (λ (x : List NumberedBody). length (image_of load x)) same,
            image_length load g.reached.before,
            g.reached.stands,
            g.below,
            end_above load g.reached.before,
          )
      go true t (refused n) e = let z : ◌≡◌ {A = ℕ} 0 1 = cc in absurd (omega arith)
