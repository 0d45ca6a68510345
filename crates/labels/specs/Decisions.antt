-- Document 01, 'Refused calls': the refusals that labels cause, each exactly on its cause.
use Rattle.std.specs.Prelude.{ℕ, ◌-◌, ◌^◌, List, Bool, cond, ◌&&◌, get_or, ltb, eqb}
use Rattle.interval_store_manager.specs.declared.IntervalStoreManager.{IntervalStoreManager}
use Rattle.interval_store_manager.specs.Calls.{Decided, go, refuse}

-- 'None means 2^64 − 1.'
abbrev pub none : ℕ
none = 2 ^ 64 - 1

-- a label index is in use: labels on, below the capacity, and its count above 0
unfoldable pub in_use : Bool → ℕ → List ℕ → ℕ → Bool
in_use store_labels capacity counts i = store_labels && (ltb i capacity && ltb 0 (get_or counts i 0))

-- 'label code above 23, labels on': 4
unfoldable pub code_decided : Bool → ℕ → Decided
code_decided store_labels code = cond (store_labels && ltb 23 code) (refuse 4) go

-- 'labels on, every label index in use': 8. No index is free, and by `all_in_use` that is every index in use
unfoldable pub room_decided : Bool → IntervalStoreManager → Decided
room_decided store_labels m = cond (store_labels && eqb m.last_in_use 0) (refuse 8) go

-- 'label index not in use': 6; 'inc of a point or label count at 65,535': 7. 'With labels off, inc ignores the label index'
unfoldable pub inc_decided : Bool → ℕ → List ℕ → ℕ → Decided
inc_decided store_labels capacity counts i =
    cond store_labels
    (cond (in_use store_labels capacity counts i) (cond (eqb (get_or counts i 0) 65535) (refuse 7) go) (refuse 6))
    go

-- 'and dec takes only none, else 6'
unfoldable pub dec_decided : Bool → ℕ → List ℕ → ℕ → Decided
dec_decided store_labels capacity counts i =
    cond store_labels (cond (in_use store_labels capacity counts i) go (refuse 6)) (cond (eqb i none) go (refuse 6))
