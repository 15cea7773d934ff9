-- The chain of each edge of the network that a layout shows.
use Rattle.std.proofs.Common.{◌≡◌, ◌≢◌, ℕ, ◌<◌, List, [], length, get_or, pos, sym, ◌∙◌, ap, subst, ⊎_elim, arith}
use Rattle.std.specs.List.{AllPairs}
use Rattle.std.proofs.lemmas.Bool.{cases_order}
use Rattle.std.proofs.lemmas.List.{get_or_default}
use Rattle.bt_parts.specs.declared.part.Part.{Part}
use Rattle.bt_net.specs.declared.network.Edge.{Edge}
use Rattle.bt_net.specs.Network.{Network}
use Rattle.bt_model.specs.Chains.{Chain, begins, ends, IsChain}
use Rattle.bt_model.specs.Shown.{Naming, IsEdgeOf, Shows}
use Rattle.bt_model.proofs.Places.{zip_length, zip_at}
use Rattle.bt_rules.proofs.Placing.{Placed, placed}

-- each edge has a chain that it stands for, and each chain is that of one edge
pub record Matched (parts : List Part) (naming : Naming) (edges : List Edge) : Type 0 where
  pub chain_of : ℕ → Chain
  pub is_chain : (e : ℕ) → e < length edges → IsChain parts (chain_of e)
  pub is_edge : (e : ℕ) (d : Edge) → e < length edges → IsEdgeOf parts naming (chain_of e) (get_or edges e d)
  pub apart : (e f : ℕ) → e < length edges → f < length edges → chain_of e ≡ chain_of f → e ≡ f
  pub each : (chain : Chain) → IsChain parts chain → (e : ℕ) × (e < length edges) × (chain_of e ≡ chain)

pub matched : (parts : List Part) (net : Network) (naming : Naming) → Shows parts net naming → Matched parts naming net.edges
matched parts net naming shows =
    let moved : Placed shows.edges net.edges = placed shows.edges net.edges shows.same in
    let long : length shows.chains ≡ length shows.edges = zip_length (IsEdgeOf parts naming) shows.chains shows.edges shows.named in
    let same : length net.edges ≡ length shows.edges = moved.long in
    let none : Chain = record { source = begins 0 (record { x = pos 0; y = pos 0 }); links = []; sink = ends 0 } in
    let into : (e : ℕ) → e < length net.edges → moved.place e < length shows.chains = λ e lt.
    let l = moved.within e (omega (arith, same, lt)) in omega (arith, l, long) in
    record {
      chain_of = λ e. get_or shows.chains (moved.place e) none;
      is_chain = λ e lt. shows.each_once.only (get_or shows.chains (moved.place e) none)
          (moved.place e, into e lt, get_or_default shows.chains (moved.place e) (get_or shows.chains (moved.place e) none) none (into e lt));
      is_edge = λ e d lt. subst (λ edge. IsEdgeOf parts naming (get_or shows.chains (moved.place e) none) edge)
          (sym (moved.there e d (omega (arith, same, lt))))
          (zip_at (IsEdgeOf parts naming) shows.chains shows.edges (moved.place e) none d shows.named (into e lt));
      apart = λ e f le lf alike. sym (moved.to_back e (omega (arith, same, le)))
          ∙ ap moved.back (one_index shows.chains none (moved.place e) (moved.place f) shows.each_once.once (into e le) (into f lf) alike)
          ∙ moved.to_back f (omega (arith, same, lf));
      each = λ chain is.
          let at = shows.each_once.all chain is in
          let lt = at.1 in (
            moved.back at.0,
            (let l = moved.within_back at.0 (omega (arith, long, lt)) in omega (arith, l, same)),
            ap (λ k. get_or shows.chains k none) (moved.from_back at.0 (omega (arith, long, lt)))
                ∙ get_or_default shows.chains at.0 none chain lt ∙ at.2,
          );
    }
  where
    one_index : (chains : List Chain) (none : Chain) (i j : ℕ) → AllPairs ◌≢◌ chains → i < length chains → j < length chains
        → get_or chains i none ≡ get_or chains j none → i ≡ j
    one_index chains none i j once li lj same =
        ⊎_elim (λ e. e) (λ more. ⊎_elim (λ lt. absurd (once i j none lt lj same)) (λ gt. absurd (once j i none gt li (sym same))) more)
        (cases_order i j)
