-- `text_domain::domain_length` meets its contract.
-- Assumes nothing.
use Rattle.text_domain.proofs.Limits.{domain_low, domain_byte, domain_pi, domain_stop, domain_end}
use Rattle.text_domain.proofs.domain_length.Goals as goal

pub loop-i-init : goal.loop-i-init
loop-i-init c = search domain_low

pub loop-i-preserved-then-text-i-lt128 : goal.loop-i-preserved-then-text-i-lt128
loop-i-preserved-then-text-i-lt128 c = search domain_byte

pub returns-else-is_pi : goal.returns-else-is_pi
returns-else-is_pi c = search domain_stop

pub loop-i-preserved : goal.loop-i-preserved
loop-i-preserved c = search domain_pi

pub returns : goal.returns
returns c = search domain_end
