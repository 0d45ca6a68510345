-- The invariant: what is found of the entries so far, which are marked.
use Rattle.std.proofs.Common.{◌≡◌, length, take}
use Rattle.hold_check.specs.ListedOnce.{listed_once, Marks}
use Rattle.hold_check.proofs.list.mark_list.Given as goal

abbrev pub invariant-loop-entry : goal.invariant-loop-entry
invariant-loop-entry l = (length l.marks ≡ length l.initial.marks) × ((l.ok ≡ listed_once (length l.counts) l.counts (take l.entry-index l.list)) × Marks (length l.counts) (take l.entry-index l.list) l.marks)
