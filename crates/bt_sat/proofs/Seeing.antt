-- Putting the places of a clause's literals on the agenda.
use Rattle.std.proofs.Common.{◌≡◌, ◌≢◌, ℕ, ◌+◌, ◌⊎◌, ◌↔◌, inl, inr, arith, List, get_or, sym, ap, ◌∙◌}
use Rattle.std.specs.Prelude.{Contains}
use Rattle.bt_cnf.specs.declared.literal.Lit.{Lit}
use Rattle.bt_watch.specs.Reasons.{lit_at}
use Rattle.bt_watch.specs.Agendas.{Adds}
use Rattle.bt_sat.specs.inner.Analysing.{IsSeen}
use Rattle.bt_cnf.proofs.Lists.{lt_or_eq}

-- the agenda has the places of the first so many literals
abbrev pub HasSeen : List ℕ → List Lit → ℕ → List ℕ → ℕ → List ℕ → Type 0
HasSeen places clause but old count now = (k : ℕ) → Contains now k ↔ (Contains old k ⊎ IsSeen places clause but count k)

module _ (places : List ℕ) (clause : List Lit) (but : ℕ) (old mid : List ℕ) (i place : ℕ) (here : get_or places (lit_at clause i).var 0 ≡ place) (has : HasSeen places clause but old i mid) where
  wider : (k : ℕ) → IsSeen places clause but i k → IsSeen places clause but (i + 1) k
  wider k (j, small, is, differs) = (j, omega (arith, small), is, differs)

  pub seen_next : (new : List ℕ) → place ≢ but → Adds mid place new → HasSeen places clause but old (i + 1) new
  seen_next new differs adds k = (
    (λ among. elim ((adds k).0 among) [
      | inl before ↦ elim ((has k).0 before) [ inl was ↦ inl was | inr seen ↦ inr (wider k seen) ]
      | inr same ↦ inr (i, omega arith, here ∙ sym same, λ e. differs (sym same ∙ e))
    ]),
    (λ one. (adds k).1 (elim one [
      | inl was ↦ inl ((has k).1 (inl was))
      | inr (j, small, is, apart) ↦ elim (lt_or_eq j i small) [
        | inl earlier ↦ inl ((has k).1 (inr (j, earlier, is, apart)))
        | inr same ↦ inr (sym is ∙ ap (λ n. get_or places (lit_at clause n).var 0) same ∙ here)
      ]
    ])),
  )

  pub seen_not : place ≡ but → HasSeen places clause but old (i + 1) mid
  seen_not same k = (
    (λ among. elim ((has k).0 among) [ inl was ↦ inl was | inr seen ↦ inr (wider k seen) ]),
    (λ one. (has k).1 (elim one [
      | inl was ↦ inl was
      | inr (j, small, is, apart) ↦ elim (lt_or_eq j i small) [
        | inl earlier ↦ inr (j, earlier, is, apart)
        | inr e ↦ absurd (apart (sym is ∙ ap (λ n. get_or places (lit_at clause n).var 0) e ∙ here ∙ same))
      ]
    ])),
  )
