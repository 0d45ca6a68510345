-- Document 01: the label half of a store, what an add, an inc and a dec do to it, and when it is well-formed.
use Rattle.std.specs.Prelude.{ℕ, List, Bool, true, Option, Some, None, cond, not, ◌&&◌, length, get_or, set, leb, ltb, eqb}
use Rattle.terms.specs.Below.{every_below, sum_below}
use Rattle.terms.specs.Search.{first_below}
use Rattle.labels.specs.Classes.{class_of}
use Rattle.labels.specs.Counted.{Counted, count_at, next_index, managed, free_uncounted, counts_fit, index_taken, raised, lowered}

-- the codes and slots of the labels, with the labels' counts; the classes of the slots, with the slots' counts
pub record Labels : Type 0 where
  pub labels : List ℕ
  pub label_attributes : List ℕ
  pub label_table : Counted
  pub attributes : List ℕ
  pub attribute_table : Counted

abbrev pub code_at : Labels → ℕ → ℕ
code_at l i = get_or l.labels i 0

abbrev pub slot_at : Labels → ℕ → ℕ
slot_at l i = get_or l.label_attributes i 0

abbrev pub class_at : Labels → ℕ → ℕ
class_at l s = get_or l.attributes s 0

abbrev pub label_count_at : Labels → ℕ → ℕ
label_count_at l i = count_at l.label_table i

abbrev pub slot_count_at : Labels → ℕ → ℕ
slot_count_at l s = count_at l.attribute_table s

-- slot s is live and holds the class
unfoldable pub holds_class : List ℕ → List ℕ → ℕ → ℕ → Bool
holds_class attributes counts class s = ltb 0 (get_or counts s 0) && eqb (get_or attributes s 0) class

-- the slot of a class 'if live': the first live slot that holds it, or the capacity where none does
unfoldable pub class_slot : ℕ → List ℕ → List ℕ → ℕ → ℕ
class_slot capacity attributes counts class = first_below capacity (holds_class attributes counts class)

-- that slot, where there is one
abbrev pub live_slot : ℕ → List ℕ → List ℕ → ℕ → Option ℕ
live_slot capacity attributes counts class =
    let live = class_slot capacity attributes counts class in
    cond (ltb live capacity) (Some live) None

-- a slot taken, with the classes and the table after it
pub record SlotTaken : Type 0 where
  pub slot : ℕ
  pub attributes : List ℕ
  pub table : Counted

-- 'takes an attribute slot (that of the class if live, else from its manager) .. with one count more'
unfoldable pub slot_taken : ℕ → List ℕ → Counted → ℕ → SlotTaken
slot_taken capacity attributes t class =
    let live = class_slot capacity attributes t.counts class in
    cond (ltb live capacity) (record { slot = live; attributes = attributes; table = raised t live })
    (record { slot = next_index t; attributes = set attributes (next_index t) class; table = index_taken t })

-- a label taken, with the label half after it
pub record LabelTaken : Type 0 where
  pub label : ℕ
  pub after : Labels

-- label i gets the code and the slot
abbrev pub labelled : Labels → ℕ → ℕ → SlotTaken → Counted → LabelTaken
labelled l code i a label_table =
    record {
      label = i;
      after = record {
        labels = set l.labels i code;
        label_attributes = set l.label_attributes i a.slot;
        label_table = label_table;
        attributes = a.attributes;
        attribute_table = a.table;
      };
    }

-- 'A kept add takes an attribute slot .., a label index, .. each with one count more'
unfoldable pub label_taken : List ℕ → ℕ → Labels → ℕ → LabelTaken
label_taken classes capacity l code =
    labelled l code (next_index l.label_table)
    (slot_taken capacity l.attributes l.attribute_table (class_of classes code))
    (index_taken l.label_table)

-- the label half with other counts
abbrev pub with_tables : Labels → Counted → Counted → Labels
with_tables l label_table attribute_table =
    record {
      labels = l.labels;
      label_attributes = l.label_attributes;
      label_table = label_table;
      attributes = l.attributes;
      attribute_table = attribute_table;
    }

-- 'Inc, dec': the label's count and its slot's
unfoldable pub label_raised : Labels → ℕ → Labels
label_raised l i = with_tables l (raised l.label_table i) (raised l.attribute_table (slot_at l i))

-- 'At 0 the index is released ..; likewise label index and attribute slot, whose code, slot and class are left standing.'
unfoldable pub label_lowered : Labels → ℕ → Labels
label_lowered l i = with_tables l (lowered l.label_table i) (lowered l.attribute_table (slot_at l i))

-- the counts of a slot's labels added up; a label that is not live adds 0
unfoldable pub slot_sum : ℕ → List ℕ → List ℕ → ℕ → ℕ
slot_sum capacity slots counts s = sum_below capacity (λ i. cond (eqb (get_or slots i 0) s) (get_or counts i 0) 0)

-- two live slots, of which one is above the other, hold different classes
unfoldable pub differ : List ℕ → List ℕ → ℕ → ℕ → Bool
differ attributes counts s t =
    not (ltb 0 (get_or counts s 0) && (ltb 0 (get_or counts t 0) && eqb (get_or attributes s 0) (get_or attributes t 0)))

-- ---- well-formedness, a name for each clause

-- every lent table has an entry for each index
unfoldable pub tables_lent : ℕ → List ℕ → List ℕ → List ℕ → List ℕ → List ℕ → Bool
tables_lent capacity labels slots counts attributes slot_counts =
    leb capacity (length labels)
    && (leb capacity (length slots)
    && (leb capacity (length counts) && (leb capacity (length attributes) && leb capacity (length slot_counts))))

-- 'Live label codes are at most 23'
unfoldable pub codes_allowed : ℕ → Labels → Bool
codes_allowed capacity l = every_below capacity (λ i. cond (ltb 0 (label_count_at l i)) (leb (code_at l i) 23) true)

-- 'a label's attribute slot holds its class': a live label's
unfoldable pub slots_hold_classes : List ℕ → ℕ → Labels → Bool
slots_hold_classes classes capacity l =
    every_below capacity
    (λ i.
    cond (ltb 0 (label_count_at l i)) (ltb (slot_at l i) capacity && eqb (class_at l (slot_at l i)) (class_of classes (code_at l i))) true)

-- 'live slots hold distinct classes'
unfoldable pub classes_distinct : ℕ → List ℕ → List ℕ → Bool
classes_distinct capacity attributes counts = every_below capacity (λ s. every_below s (λ t. differ attributes counts s t))

-- 'a slot's count is the sum of its labels' counts'
unfoldable pub slots_summed : ℕ → Labels → Bool
slots_summed capacity l =
    every_below capacity (λ s. eqb (slot_count_at l s) (slot_sum capacity l.label_attributes l.label_table.counts s))

-- 'Each manager is well-formed, .. the other two's [capacity being] the capacity'; 'Counts of points and labels are at most
-- 65,535'; the four clauses above; 'and free label indices and slots are those with count 0'
unfoldable pub labels_well : List ℕ → ℕ → Labels → Bool
labels_well classes capacity l =
    tables_lent capacity l.labels l.label_attributes l.label_table.counts l.attributes l.attribute_table.counts
    && (managed capacity l.label_table
    && (managed capacity l.attribute_table
    && (counts_fit capacity l.label_table.counts
    && (codes_allowed capacity l
    && (slots_hold_classes classes capacity l
    && (classes_distinct capacity l.attributes l.attribute_table.counts
    && (slots_summed capacity l
    && (free_uncounted capacity l.label_table && free_uncounted capacity l.attribute_table))))))))

-- 'with labels off those two, the labels and the slots are not looked at'
abbrev pub labels_ok : Bool → List ℕ → ℕ → Labels → Bool
labels_ok store_labels classes capacity l = cond store_labels (labels_well classes capacity l) true
