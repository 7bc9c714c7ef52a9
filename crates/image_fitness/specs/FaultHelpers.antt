-- What the contracts of the walk say: what is left of an image's faults at a place.
-- Assumes nothing.
use Rattle.std.specs.Prelude.{ℕ, ◌+◌, ◌-◌, ◌*◌, ◌<◌, ◌≡◌, Bool, List, [], ◌∷◌, ◌++◌, map, length}
use Rattle.base_refusals.specs.Answer.{Answer, done, refused}
use Rattle.image_readers.specs.declared.Line.{Line}
use Rattle.image_readers.specs.Bodies.{body_of}
use Rattle.image_readers.specs.Links.{link_step}
use Rattle.image_readers.specs.Lined.{lined_from}
use Rattle.image_jumps.specs.JumpHelpers.{left_of}
use Rattle.image_faults.specs.declared.Fault.{Fault}
use Rattle.image_faults.specs.declared.Fault.TheVariants.{NoTarget}
use Rattle.image_fitness.specs.declared.Check.{Check}
use Rattle.image_fitness.specs.declared.Check.TheVariants.{Number, Order, Zero, Length, Jumps}
use Rattle.image_fitness.specs.declared.Stage.{Stage}
use Rattle.image_fitness.specs.declared.Stage.TheVariants.{Memory, Line as LineStage, Relinking, Done}
use Rattle.image_fitness.specs.declared.Place.{Place}
use Rattle.image_fitness.specs.declared.Moved.{Moved}
use Rattle.image_fitness.specs.declared.Moved.TheVariants.{Told as MovedTold, On, End}
use Rattle.image_fitness.specs.declared.Found.{Found}
use Rattle.image_faults.specs.Faults.{memory_faults, relink_faults, order_faults, zero_faults, length_faults, unmet, jump_faults, line_faults, lines_faults}
use Rattle.std.specs.Prelude.{Option, Some, None}

-- ---- places

-- the faults from the line at p on
unfoldable pub rest_from : (ℕ → Bool) → List ℕ → ℕ → ℕ → List Fault
unfolding lines_faults lined_from link_step relink_faults
rest_from has s least p = lines_faults has s least (lined_from link_step s p).lines ++ relink_faults s

-- the faults of what stands at an offset, f being those of a line, and those behind it
abbrev pub faults_by : (ℕ → Bool) → List ℕ → (Line → List Fault) → Answer (Option Line) → List Fault
faults_by has s f (done (Some l)) = f l ++ rest_from has s (l.number + 1) l.next
faults_by has s f (done None) = relink_faults s
faults_by has s f (refused n) = relink_faults s

-- the faults of a line from a check on
unfoldable pub check_faults : (ℕ → Bool) → List ℕ → ℕ → Check → Line → List Fault
unfolding line_faults order_faults zero_faults length_faults jump_faults unmet left_of
check_faults has s least Number l = line_faults has s least l
check_faults has s least Order l = order_faults least l ++ (zero_faults s l ++ (length_faults s l ++ jump_faults has s l))
check_faults has s least Zero l = zero_faults s l ++ (length_faults s l ++ jump_faults has s l)
check_faults has s least Length l = length_faults s l ++ jump_faults has s l
check_faults has s least (Jumps c) l = map (NoTarget l.number) (unmet has (left_of (body_of s l) c))

unfoldable pub stage_faults : (ℕ → Bool) → List ℕ → Stage → ℕ → ℕ → List Fault
unfolding memory_faults rest_from check_faults link_step relink_faults
stage_faults has s Memory p least = memory_faults s ++ rest_from has s least p
stage_faults has s (LineStage c) p least = faults_by has s (check_faults has s least c) (link_step s p)
stage_faults has s Relinking p least = relink_faults s
stage_faults has s Done p least = []

-- the faults that are left at a place
abbrev pub faults_at : (ℕ → Bool) → List ℕ → Place → List Fault
faults_at has s x = stage_faults has s x.stage x.offset x.least

-- ---- steps

abbrev pub checks_left : Check → ℕ
checks_left Number = 6
checks_left Order = 5
checks_left Zero = 4
checks_left Length = 3
checks_left (Jumps c) = 2

abbrev pub stages_left : Stage → ℕ
stages_left Memory = 7
stages_left (LineStage c) = checks_left c
stages_left Relinking = 1
stages_left Done = 0

-- how far a place is from the end
abbrev pub place_ahead : List ℕ → Place → ℕ
place_ahead s x = 8 * (length s - x.offset) + stages_left x.stage

abbrev pub moved_by : Option Fault → Place → Moved
moved_by (Some f) q = MovedTold (record { fault = f; place = q })
moved_by None q = On q

-- no fault up to a place that is nearer to the end
pub record WalksOn (has : ℕ → Bool) (s : List ℕ) (x q : Place) : Type 0 where
  pub same : faults_at has s x ≡ faults_at has s q
  pub nearer : place_ahead s q < place_ahead s x

abbrev pub MovedIs : (ℕ → Bool) → List ℕ → Place → Moved → Type 0
MovedIs has s x (MovedTold m) = faults_at has s x ≡ m.fault ∷ faults_at has s m.place
MovedIs has s x (On q) = WalksOn has s x q
MovedIs has s x End = faults_at has s x ≡ []

-- the next fault, and what is left behind it
abbrev pub FaultIs : (ℕ → Bool) → List ℕ → Place → Option Found → Type 0
FaultIs has s x (Some m) = faults_at has s x ≡ m.fault ∷ faults_at has s m.place
FaultIs has s x None = faults_at has s x ≡ []
