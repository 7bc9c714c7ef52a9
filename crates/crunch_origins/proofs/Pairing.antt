-- The numbers of nonblank text lines, one behind the other.
-- Assumes nothing.
use Prim.Native.Nat.{ℕ, suc, ◌+◌, ◌-◌, ◌≤◌, ◌<◌}
use mathlib.Core.Path.{◌≡◌, refl, sym, ap, ◌∙◌}
use mathlib.Core.List.{List, [], ◌∷◌}
use native.Mathlib.Numerals.{add-one}
use native.Mathlib.Omega.{arith}
use lib.ListN.{length, set, take, drop}
use lib.Seq.{set_out}
use Rattle.base_ascii.specs.Trim.{trim}
use Rattle.base_ascii.proofs.Laws.{trim_space}
use Rattle.text_lines.specs.declared.TextLine.{TextLine}
use Rattle.text_lines.specs.declared.LineRule.TheVariants.{AfterCr}
use Rattle.text_lines.specs.SplitHelpers.{line_from}
use Rattle.text_lines.specs.TextLines.{text_lines}
use Rattle.text_lines.proofs.Blanks.{blank_trimmed}
use Rattle.text_lines.proofs.Splitting.{line_step, line_behind_lem, lines_end}
use Rattle.say_put.specs.Clipped.{Clipped}
use Rattle.say_put.proofs.Clipping.{Owes, owes_all, owes_less, owes_none, clip_as, clip_none}
use Rattle.crunch_rules.specs.Measured.{unless_blank, nonblank_from, nonblank_lines}

-- ---- one line

-- a trimmed line with a byte in it has its number
some_number : (number : ℕ) (t : List ℕ) → (length t ≡ 0 → ⊥) → number ∷ [] ≡ unless_blank number t
some_number number [] n = absurd (n refl)
some_number number (b ∷ t) n = refl

no_number : (number : ℕ) (t : List ℕ) → length t ≡ 0 → [] ≡ unless_blank number t
no_number number [] e = refl
no_number number (b ∷ t) e = absurd (omega arith)

module _ (buffer line : List ℕ) (to number : ℕ) {r : List ℕ} (is : r ≡ trim line) where
  pub blank_put : length r ≡ 0 → to ≤ length buffer → Clipped buffer to (unless_blank number (trim line)) to buffer
  blank_put e h = clip_as (no_number number (trim line) (sym (ap length is) ∙ e)) (clip_none h)

  some_here : (length r ≡ 0 → ⊥) → number ∷ [] ≡ unless_blank number (trim line)
  some_here n = some_number number (trim line) (λ e. n (ap length is ∙ e))

  pub line_put : to < length buffer → (length r ≡ 0 → ⊥) → Clipped buffer to (unless_blank number (trim line)) (to + 1) (set buffer to number)
  line_put h n = clip_as (some_here n) (record { ends = omega arith; stored = refl })

  pub line_over : length buffer ≤ to → to ≤ length buffer → (length r ≡ 0 → ⊥) → Clipped buffer to (unless_blank number (trim line)) to buffer
  line_over o h n = clip_as (some_here n) (record { ends = omega arith; stored = sym (set_out buffer to number o) })

-- ---- the loop over the text lines

-- of the numbers those before a place are stored, and the rest is owed
pub record Pairing (text buffer out : List ℕ) (at k to : ℕ) : Type 0 where
  pub within : at ≤ length text
  pub counted : k ≤ at
  pub owes : Owes buffer 0 (nonblank_lines text) out to (nonblank_from (suc k) (text_lines AfterCr (drop at text)))

pub pairing_start : (text buffer : List ℕ) → Pairing text buffer buffer 0 0 0
pairing_start text buffer = record { within = omega arith; counted = omega arith; owes = owes_all (nonblank_lines text) (omega arith) }

module _ {text buffer out : List ℕ} {at k to : ℕ} (p : Pairing text buffer out at k to) where
  pub pairing_turn : {r : TextLine} → r ≡ line_from AfterCr text at → at < length text → {mid : ℕ} {half : List ℕ}
      → Clipped out to (unless_blank (k + 1) (trim (take (r.end - r.begin) (drop r.begin text)))) mid half → Pairing text buffer half r.next (k + 1) mid
  unfolding nonblank_from
  pairing_turn {r} is h c =
      let s = line_step AfterCr text at h is in
      let same : trim (take (r.end - r.begin) (drop r.begin text)) ≡ trim (take (r.end - at) (drop at text)) =
      line_behind_lem trim (λ b l q. trim_space b l (blank_trimmed b q)) AfterCr text at is in
      record {
        within = s.within;
        counted = omega (arith, p.counted, s.onward);
        owes =
            rw add-one
            (owes_less (unless_blank (suc k) (trim (take (r.end - at) (drop at text)))) (nonblank_from (suc (suc k)) (text_lines AfterCr (drop r.next text))) p.owes
            (ap (nonblank_from (suc k)) s.lines) (clip_as (ap (unless_blank (k + 1)) same ∙ rw add-one refl) c));
      }

  pub pairing_end : length text ≤ at → Clipped buffer 0 (nonblank_lines text) to out
  unfolding nonblank_from
  pairing_end h = owes_none p.owes (ap (nonblank_from (suc k)) (lines_end AfterCr text at h))
