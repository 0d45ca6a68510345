-- A label passes where it is bounded and its class is held.
use mathlib.Core.Path.{sym, ◌∙◌}
use Rattle.label_check.specs.LabelPass.{share_ready, swept_bounded, swept_not}
use Rattle.label_check.proofs.label_pass.labels_pass.Goals as goal

pub labels_shared-requires : goal.labels_shared-requires
labels_shared-requires c = share_ready c.args.classes.now c.args.capacity c.args.tables.labels.now c.args.tables.label_attributes.now c.args.tables.label_count.now c.args.tables.attributes.now c.args.marks.now c.args.sums.now c.requires.0 c.requires.1.0 c.requires.1.1 (sym c.labels_bounded.ensures ∙ c.if-labels_bounded.true)

pub returns-then-labels_bounded : goal.returns-then-labels_bounded
returns-then-labels_bounded c = swept_bounded c.args.classes.now c.args.capacity c.args.tables.labels.now c.args.tables.label_attributes.now c.args.tables.label_count.now c.args.tables.attributes.now c.args.marks.now c.labels_shared.new.sums c.labels_shared.result (sym c.labels_bounded.ensures ∙ c.if-labels_bounded.true) c.labels_shared.ensures

pub returns : goal.returns
returns c = swept_not c.args.classes.now c.args.capacity c.args.tables.labels.now c.args.tables.label_attributes.now c.args.tables.label_count.now c.args.tables.attributes.now c.args.marks.now c.args.sums.now (sym c.labels_bounded.ensures ∙ c.if-labels_bounded.false)
