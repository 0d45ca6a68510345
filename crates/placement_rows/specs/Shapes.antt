-- How points lie in a store: base is how many words each of a shingle's points has.
use Rattle.std.specs.Prelude.{ℕ, ◌/◌, Bool}
use Rattle.placement_rows.specs.declared.shape.Shape.{Shape}

abbrev pub shape_of : (dims shingle : ℕ) → Bool → Shape
shape_of dims shingle rotation = record { dimensions = dims; base = dims / shingle; rotation = rotation }
