-- What the options' listings have in common (document 02, No. 6): the old mode is the original's listing under each dialect of document 01, Auto lists as
-- Tsb,
-- and "Where no body holds 64 and no byte 61 to 7A or of 80 and above follows an unquoted 8F, the two modes are proved to agree".
-- Assumes nothing.
use Prim.Native.Nat.{ℕ, ◌≤◌, ◌<◌}
use mathlib.Core.Path.{◌≡◌, refl, sym, ap, ◌∙◌}
use mathlib.Core.Bool.{Bool, true, false, not, cond, ◌&&◌, ◌||◌, false≢true}
use mathlib.Core.List.{List, [], ◌∷◌, ◌++◌}
use native.Mathlib.Omega.{arith}
use lib.Dec.{eqb, leb}
use borrow.Author.Tests.{eqb-true, ne_eqb, leb-false}
use Rattle.base_refusals.specs.Answer.{Answer, done, refused, map_done}
use Rattle.base_ascii.specs.Bytes.{between}
use Rattle.list_bytes.specs.ByteTexts.{remark_text}
use Rattle.word_dialects.specs.Dialects.{is_basic35}
use Rattle.word_dialects.specs.declared.Dialect.{Dialect}
use Rattle.word_dialects.specs.declared.Dialect.TheVariants.{Auto, BasicV2, Tsb, Basic35}
use Rattle.image_readers.specs.declared.By.{By}
use Rattle.image_readers.specs.declared.By.TheVariants.{Terminators, Links}
use Rattle.image_readers.specs.NumberedBody.{NumberedBody}
use Rattle.image_readers.specs.Bodies.{bodies_of}
use Rattle.image_readers.specs.Readers.{step_by}
use Rattle.image_units.specs.declared.Mode.{Mode}
use Rattle.image_units.specs.declared.Mode.TheVariants.{Plain, Quoted, Remark}
use Rattle.image_units.specs.declared.Rules.{Rules}
use Rattle.image_units.specs.declared.Unit.{Unit}
use Rattle.image_units.specs.declared.Unit.TheVariants.{Char, Remarked}
use Rattle.image_units.specs.Units.{mode_behind, toggled_mode, one_unit, token_unit, unquoted_unit, quoted_unit, unit_at, units_from}
use Rattle.image_units.proofs.Walking.{units_none, units_more}
use Rattle.list_spelling.specs.Pieces.{unit_text, spelt}
use Rattle.base_steps.specs.Each.{Each}
use Rattle.list_lines.specs.Body.{body_listing, line_listing}
use Rattle.list_image.specs.Listing.{lines_listing, listing_by, listing, listing_under}
use Rattle.list_options.specs.Modes.{heeds_prefix, rules_under}
use Rattle.list_image.specs.Alike.{behind_remark, lists_apart, ListsAlike}

-- ---- the old mode, and Auto

pub old_mode : (d : Dialect) (image : List ℕ) → is_basic35 d ≡ false → listing_under (record { dialect = d; remarks = false; by = Terminators }) image ≡ listing image
unfolding listing_under listing heeds_prefix
old_mode Auto image n = refl
old_mode BasicV2 image n = refl
old_mode Tsb image n = refl
old_mode Basic35 image n = absurd (false≢true (sym n))

pub auto_as_tsb : (remarks : Bool) (by : By) (image : List ℕ)
    → listing_under (record { dialect = Auto; remarks = remarks; by = by }) image ≡ listing_under (record { dialect = Tsb; remarks = remarks; by = by }) image
unfolding listing_under heeds_prefix
auto_as_tsb remarks by image = refl

-- ---- one byte

-- quoted or not
abbrev mode_of : Bool → Mode
mode_of true = Quoted
mode_of false = Plain

alike : {A : Type 0} (b : Bool) (x : A) → cond b x x ≡ x
alike true x = refl
alike false x = refl

below : (b : ℕ) (k : ℕ) → leb 0x80 b ≡ false → 0x80 ≤ k → eqb b k ≡ false
below b k e h = let l : b < 0x80 = leb-false 0x80 b e in ne_eqb b k (λ q. omega arith)

module _ (rules : Rules) (b : ℕ) (rest : List ℕ) where
  quote_unit : (quoted : Bool) → eqb b 0x22 ≡ true → unit_at rules (mode_of quoted) b rest ≡ one_unit (Char b) (mode_of (not quoted))
  unfolding unit_at unquoted_unit quoted_unit toggled_mode
  quote_unit true q = simp q
  quote_unit false q = simp q

  quoted_unit_lem : eqb b 0x22 ≡ false → unit_at rules Quoted b rest ≡ one_unit (Char b) Quoted
  unfolding unit_at quoted_unit
  quoted_unit_lem q = simp q

  remark_unit : eqb b 0x8F ≡ true → unit_at rules Plain b rest ≡ one_unit (token_unit rules b) (cond rules.remarks Remark Plain)
  unfolding unit_at unquoted_unit mode_behind
  remark_unit r = rw (eqb-true b 0x8F r)

  remarked_unit : unit_at rules Remark b rest ≡ one_unit (Remarked b) Remark
  unfolding unit_at
  remarked_unit = refl

  module _ (e : eqb b 0x64 ≡ false) where
    -- an unquoted byte that is no quote and opens no remark
    plain_unit : rules.items ≡ false → eqb b 0x22 ≡ false → eqb b 0x8F ≡ false → unit_at rules Plain b rest ≡ one_unit (cond (leb 0x80 b) (token_unit rules b) (Char b)) Plain
    unfolding unit_at unquoted_unit mode_behind
    plain_unit i q r = simp (e, q, r, i, alike (eqb b 0x83) Plain)

    -- a byte below 80
    char_unit : rules.items ≡ false → leb 0x80 b ≡ false → (quoted : Bool) → unit_at rules (mode_of quoted) b rest ≡ one_unit (Char b) (mode_of (cond (eqb b 0x22) (not quoted) quoted))
    char_unit i l quoted = go quoted (eqb b 0x22) refl
      where
        go : (quoted t : Bool) → eqb b 0x22 ≡ t → unit_at rules (mode_of quoted) b rest ≡ one_unit (Char b) (mode_of (cond t (not quoted) quoted))
        go quoted true q = quote_unit quoted q
        go true false q = quoted_unit_lem q
        go false false q = plain_unit i q (below b 0x8F l (omega arith)) ∙ simp l

-- ---- a body

-- the text of a unit of one byte, and of what follows it
text_more : (rules : Rules) (mode : Mode) (b : ℕ) (rest : List ℕ) {u : Unit} {m : Mode} → unit_at rules mode b rest ≡ one_unit u m
    → spelt (units_from rules mode (b ∷ rest)) ≡ unit_text u ++ spelt (units_from rules m rest)
unfolding spelt
text_more rules mode b rest e = ap spelt (units_more rules mode b rest) ∙ rw e

-- two walks that give the same text at a byte give the same if they do behind it
step_alike : (r s : Rules) (f g : Mode) (b : ℕ) (rest : List ℕ) {u v : Unit} {m n : Mode} → unit_at r f b rest ≡ one_unit u m → unit_at s g b rest ≡ one_unit v n
    → unit_text u ≡ unit_text v → spelt (units_from r m rest) ≡ spelt (units_from s n rest) → spelt (units_from r f (b ∷ rest)) ≡ spelt (units_from s g (b ∷ rest))
step_alike r s f g b rest d e same more = text_more r f b rest d ∙ rw (same, more) (sym (text_more s g b rest e))

-- the test of either of two
either_none : (x y : Bool) → (x || y) ≡ false → (x ≡ false) × (y ≡ false)
either_none false y e = (refl, e)
either_none true y e = let z : ◌≡◌ {A = ℕ} 0 1 = cc in absurd (omega arith)

remarked_text : (b : ℕ) → between 0x61 0x7A b ≡ false → unit_text (Remarked b) ≡ unit_text (Char b)
unfolding unit_text remark_text
remarked_text b e = simp e

-- bytes that both modes list alike behind a remark's token
abbrev Mild : List ℕ → Type 0
Mild = Each (λ b. lists_apart b ≡ false)

-- rules of either mode: remarks heeded or not, whatever the prefix and the words
module _ (p q own : Bool) where
  abbrev old : Rules
  old = record { prefix = p; remarks = false; items = false; basic35 = own }

  abbrev new : Rules
  new = record { prefix = q; remarks = true; items = false; basic35 = own }

  abbrev Same : Mode → Mode → List ℕ → Type 0
  Same m n s = spelt (units_from new m s) ≡ spelt (units_from old n s)

  same_none : (m n : Mode) → Same m n []
  same_none m n = ap spelt (units_none new m) ∙ sym (ap spelt (units_none old n))

  -- behind a remark's token
  remark_alike : (quoted : Bool) (s : List ℕ) → Each (λ b. eqb b 0x64 ≡ false) s → Mild s → Same Remark (mode_of quoted) s
  remark_alike quoted [] n m = same_none Remark (mode_of quoted)
  remark_alike quoted (b ∷ rest) n m =
      let t = either_none (between 0x61 0x7A b) (leb 0x80 b) m.0 in
      step_alike new old Remark (mode_of quoted) b rest (remarked_unit new b rest) (char_unit old b rest n.0 refl t.1 quoted) (remarked_text b t.0)
      (remark_alike (cond (eqb b 0x22) (not quoted) quoted) rest n.1 m.1)

  walk_alike : (quoted : Bool) (s : List ℕ) → Each (λ b. eqb b 0x64 ≡ false) s → Mild (behind_remark quoted s) → Same (mode_of quoted) (mode_of quoted) s
  unfolding behind_remark
  walk_alike quoted [] n m = same_none (mode_of quoted) (mode_of quoted)
  walk_alike quoted (b ∷ rest) n m = go quoted (eqb b 0x22) (eqb b 0x8F) refl refl m (λ r. walk_alike r rest n.1)
    where
      go : (quoted t r : Bool) → eqb b 0x22 ≡ t → eqb b 0x8F ≡ r → Mild (cond t (behind_remark (not quoted) rest) (cond (r && not quoted) rest (behind_remark quoted rest)))
          → ((quoted : Bool) → Mild (behind_remark quoted rest) → Same (mode_of quoted) (mode_of quoted) rest) → Same (mode_of quoted) (mode_of quoted) (b ∷ rest)
      go quoted true r d e k more =
          step_alike new old (mode_of quoted) (mode_of quoted) b rest (quote_unit new b rest quoted d) (quote_unit old b rest quoted d) refl (more (not quoted) k)
      go true false true d e k more = step_alike new old Quoted Quoted b rest (quoted_unit_lem new b rest d) (quoted_unit_lem old b rest d) refl (more true k)
      go true false false d e k more = step_alike new old Quoted Quoted b rest (quoted_unit_lem new b rest d) (quoted_unit_lem old b rest d) refl (more true k)
      go false false true d e k more =
          step_alike new old Plain Plain b rest (remark_unit new b rest e) (remark_unit old b rest e) refl (remark_alike false rest n.1 k)
      go false false false d e k more =
          step_alike new old Plain Plain b rest (plain_unit new b rest n.0 refl d e) (plain_unit old b rest n.0 refl d e) refl (more false k)

  body_alike : (body : List ℕ) → ListsAlike body → body_listing new body ≡ body_listing old body
  unfolding body_listing
  body_alike body h = walk_alike false body h.no_prefix h.no_others

  lines_alike : (ls : List NumberedBody) → Each (λ l. ListsAlike l.body) ls → lines_listing new ls ≡ lines_listing old ls
  unfolding lines_listing line_listing
  lines_alike [] h = refl
  lines_alike (l ∷ ls) h = rw (body_alike l.body h.0, lines_alike ls h.1)

-- ---- an image

-- the two modes agree where every body that is read lists alike in them; a refusal is the same in both
pub modes_agree : (d : Dialect) (by : By) (image : List ℕ) → ((ls : List NumberedBody) → bodies_of (step_by by) image ≡ done ls → Each (λ l. ListsAlike l.body) ls)
    → listing_under (record { dialect = d; remarks = true; by = by }) image ≡ listing_under (record { dialect = d; remarks = false; by = by }) image
unfolding listing_under listing_by
modes_agree d by image h = go (bodies_of (step_by by) image) h
  where
    go : (a : Answer (List NumberedBody)) → ((ls : List NumberedBody) → a ≡ done ls → Each (λ l. ListsAlike l.body) ls)
        → map_done (lines_listing (new (heeds_prefix d false) (heeds_prefix d true) (is_basic35 d))) a ≡ map_done (lines_listing (old (heeds_prefix d false) (heeds_prefix d true) (is_basic35 d))) a
    go (done ls) k = ap done (lines_alike (heeds_prefix d false) (heeds_prefix d true) (is_basic35 d) ls (k ls refl))
    go (refused n) k = refl

-- so outside `basic35` the listing in the second mode is there the old listing
pub second_mode_as_old : (d : Dialect) (image : List ℕ) → is_basic35 d ≡ false
    → ((ls : List NumberedBody) → bodies_of (step_by Terminators) image ≡ done ls → Each (λ l. ListsAlike l.body) ls)
    → listing_under (record { dialect = d; remarks = true; by = Terminators }) image ≡ listing image
second_mode_as_old d image other h = modes_agree d Terminators image h ∙ old_mode d image other

-- where both readers read the same lines, both list the same
pub readers_agree : (d : Dialect) (remarks : Bool) (image : List ℕ) → bodies_of (step_by Terminators) image ≡ bodies_of (step_by Links) image
    → listing_under (record { dialect = d; remarks = remarks; by = Terminators }) image ≡ listing_under (record { dialect = d; remarks = remarks; by = Links }) image
unfolding listing_under listing_by
readers_agree d remarks image e = ap (map_done (lines_listing (rules_under (record { dialect = d; remarks = remarks; by = Links })))) e
