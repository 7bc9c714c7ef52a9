-- `disk_why::bit_fault` meets its contract.
-- Assumes nothing.
use Rattle.disk_chains.proofs.Mapping.{agrees_in}
use Rattle.disk_why.proofs.Faults.{bit_18, beyond_fine, beyond_told, met_fine, met_told, free_fine, free_told}
use Rattle.disk_why.proofs.bit_fault.Goals as goal

pub returns-then-track-eq18 : goal.returns-then-track-eq18
returns-then-track-eq18 c = bit_18 c.args.disk.now c.args.marks.now c.args.track c.args.sector c.if-track-eq18.true

pub returns-then-bit-eq0 : goal.returns-then-bit-eq0
returns-then-bit-eq0 c = search (beyond_fine c.args.disk.now c.args.marks.now c.args.track c.args.sector c.if-track-eq18.false)

pub returns-then-sector-sectors_on : goal.returns-then-sector-sectors_on
returns-then-sector-sectors_on c = search (beyond_told c.args.disk.now c.args.marks.now c.args.track c.args.sector c.if-track-eq18.false, c.if-bit-eq0.false)

pub bounds-marks-sectors_before : goal.bounds-marks-sectors_before
bounds-marks-sectors_before c = search agrees_in

pub returns-then-bit-eq0-2 : goal.returns-then-bit-eq0-2
returns-then-bit-eq0-2 c = search (met_fine c.args.disk.now c.args.marks.now c.args.track c.args.sector c.if-track-eq18.false)

pub returns-then-marks-sectors_before : goal.returns-then-marks-sectors_before
returns-then-marks-sectors_before c = search (met_told c.args.disk.now c.args.marks.now c.args.track c.args.sector c.if-track-eq18.false, c.if-bit-eq0-2.false)

pub returns-then-bit-eq1 : goal.returns-then-bit-eq1
returns-then-bit-eq1 c = search (free_fine c.args.disk.now c.args.marks.now c.args.track c.args.sector c.if-track-eq18.false)

pub returns : goal.returns
returns c = search (free_told c.args.disk.now c.args.marks.now c.args.track c.args.sector c.if-track-eq18.false, c.if-bit-eq1.false)
