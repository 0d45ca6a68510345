-- Document 01, 'Bounds', and how long the lent slices are.
use Rattle.std.specs.Prelude.{ℕ, ◌*◌, ◌%◌, Bool, true, cond, ◌&&◌, length, leb, eqb}
use Rattle.store_definitions.specs.Memory.{Memory}

-- 'dimensions 1 to 64; shingle size divides dimensions; capacity 1 to 1,024; capacity × dimensions at most 16,384'
unfoldable pub bounds_hold : (dims shingle capacity : ℕ) → Bool
bounds_hold dims shingle capacity =
    leb 1 dims
    && (leb dims 64
    && (leb 1 shingle && (eqb (dims % shingle) 0 && (leb 1 capacity && (leb capacity 1024 && leb (capacity * dims) 16384)))))

-- 'starting capacity 1 to capacity'
unfoldable pub start_allowed : (start capacity : ℕ) → Bool
start_allowed start capacity = leb 1 start && leb start capacity

-- document 02 retires rotation behind this name
unfoldable pub rotation_allowed : Bool → Bool
rotation_allowed rotation = true

-- '(with labels off none for labels and slots)': with labels on, of each of these
unfoldable pub labels_lent : {E : Type 0} → ℕ → Memory E → Bool
labels_lent capacity m =
    leb capacity (length m.labels)
    && (leb capacity (length m.label_attributes)
    && (leb capacity (length m.label_count)
    && (leb capacity (length m.label_starts)
    && (leb capacity (length m.label_ends)
    && (leb capacity (length m.attributes)
    && (leb capacity (length m.attribute_count)
    && (leb capacity (length m.attribute_starts) && leb capacity (length m.attribute_ends))))))))

-- 'The lent floats number at least capacity × dimensions, any other lent table or stack capacity entries (with labels off none
-- for labels and slots), a lent window dimensions.'
unfoldable pub lent_enough : {E : Type 0} → (dims capacity : ℕ) → Bool → Memory E → Bool
lent_enough dims capacity store_labels m =
    leb (capacity * dims) (length m.store)
    && (leb dims (length m.last_known_shingle)
    && (leb capacity (length m.reference_count)
    && (leb capacity (length m.location)
    && (leb capacity (length m.index_starts)
    && (leb capacity (length m.index_ends) && cond store_labels (labels_lent capacity m) true)))))
