-- The variables that had no value before.
use Rattle.std.proofs.Common.{ℕ, Bool, List, ◌++◌, inl, inr, get_or, sym, ◌∙◌, Option, None}
use Rattle.std.proofs.lemmas.List.Elements.{Contains-append_left}
use Rattle.bt_cnf.specs.declared.literal.Lit.{Lit}
use Rattle.bt_cnf.specs.Truths.{IsUnset}
use Rattle.bt_watch.specs.Keeping.{AreTrue}
use Rattle.bt_cnf.proofs.Lacking.{none_or, some_none}

-- a variable that has no value had none before literals were added to the trail
pub unset_before : (old new : List (Option Bool)) (trail more : List Lit) → AreTrue old trail → AreTrue new (trail ++ more) → (v : ℕ) → IsUnset new v → IsUnset old v
unset_before old new trail more before after v none = elim (none_or (get_or old v None)) [
  | inl unset ↦ unset
  | inr (b, is) ↦
      let l : Lit = record { var = v; positive = b } in
      absurd (some_none b (sym (after.true_in l (Contains-append_left trail more l (before.in_trail l is))) ∙ none))
]
