-- What one more call makes of the two counts.
use Rattle.std.specs.Prelude.{◌+◌, ◌%◌, ◌^◌, Bool, cond}
use Rattle.recorded_text.specs.declared.tally.Agreement.{Agreement}

abbrev pub no_calls : Agreement
no_calls = record { agreed = 0; made = 0 }

abbrev pub counted : Agreement → Bool → Agreement
counted a agreed = record { agreed = (a.agreed + cond agreed 1 0) % 2 ^ 64; made = (a.made + 1) % 2 ^ 64 }
