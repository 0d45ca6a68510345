-- Entry by entry.
use Rattle.std.proofs.Common.{arith, rules, sym, ◌∙◌, ◌≡◌, length, get_or}
use Rattle.std.proofs.lemmas.List.{ext_get_or}
use Rattle.probes_definitions.specs.declared.Reading.TheVariants.{Absent}
use Rattle.probe_readings.specs.Kinds.{kind_of, kinds_of, kinds_of_length}
use Rattle.probe_readings.specs.Entries.{kinds_at}
use Rattle.probe_readings.proofs.convert.kinds_of.Goals as goal

pub returns : goal.returns
returns c =
    let a = c.args in
    let items = c.map.ensures.items in
    let n : length a.set ≡ 8 = search rules in
    let long : length c.map.result ≡ length (kinds_of a.set) = items.long ∙ sym n ∙ sym (kinds_of_length a.set) in
    let same = ext_get_or 0 c.map.result (kinds_of a.set) long
    (λ i h.
    let e : get_or c.map.result i 0 ≡ kind_of (get_or a.set i Absent) = search (rules, items.at i Absent 0 (omega (arith, h, items.long))) in
    e ∙ sym (kinds_at Absent a.set i (omega (arith, h, items.long, n)))) in
    (same, n)
