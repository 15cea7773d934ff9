-- A network whose edges are given one cap is a network.
use Rattle.std.proofs.Common.{◌≡◌, ℕ, Bool, cond, List, [], ◌∷◌, ◌+◌, map, refl, ap, subst, sym, ◌∙◌, arith}
use Rattle.std.specs.List.{count_by}
use Rattle.std.proofs.lemmas.List.{length-map}
use Rattle.std.proofs.lemmas.List.Elements.{All-map}
use Rattle.std.proofs.lemmas.List.Sums.{sum_by-cons}
use Rattle.bt_net.specs.declared.network.Edge.{Edge}
use Rattle.bt_net.specs.Network.{EndsIn, IsCap, IsNetwork, IsWired, Network, network_of, StartsIn, enters, is_input, is_output, leaves}
use Rattle.bt_net.proofs.Preference.{plain_is_prioritised}
use Rattle.bt_parts.specs.declared.part.Tier.{Tier}
use Rattle.bt_parts.specs.declared.part.Tier.TheVariants.{Basic, Fast, Express, Turbo}
use Rattle.bt_parts.specs.Tiers.{speed_of}
use Rattle.bt_designs.specs.Designs.{with_cap, with_caps}

-- a tier's speed is a cap
pub speed_is_cap : (tier : Tier) → IsCap (speed_of tier)
speed_is_cap Basic = (omega arith, omega arith)
speed_is_cap Fast = (omega arith, omega arith)
speed_is_cap Express = (omega arith, omega arith)
speed_is_cap Turbo = (omega arith, omega arith)

-- as many edges with one cap pass a test that doesn't look at caps
same_count : (most : ℕ) (p : Edge → Bool) → ((e : Edge) → p (with_cap most e) ≡ p e) → (edges : List Edge) → count_by p (map (with_cap most) edges) ≡ count_by p edges
same_count most p blind [] = refl
same_count most p blind (e ∷ edges) =
    let before : count_by p (e ∷ edges) ≡ cond (p e) 1 0 + count_by p edges = sum_by-cons (λ x. cond (p x) 1 0) e edges in
    let after : count_by p (map (with_cap most) (e ∷ edges)) ≡ cond (p (with_cap most e)) 1 0 + count_by p (map (with_cap most) edges) =
    sum_by-cons (λ x. cond (p x) 1 0) (with_cap most e) (map (with_cap most) edges) in
    let first : cond {A = ℕ} (p (with_cap most e)) 1 0 ≡ cond {A = ℕ} (p e) 1 0 = ap (λ b. cond {A = ℕ} b 1 0) (blind e) in
    let rest = same_count most p blind edges in
    omega (arith, before, after, first, rest)

module _ (most : ℕ) (n : Network) (is_cap : IsCap most) (is : IsNetwork n) where
  pub capped_is_wired : IsWired (with_caps most n)
  capped_is_wired = record {
    starts = All-map (λ e. StartsIn n e.start) (with_cap most) n.edges is.wired.starts;
    targets = All-map (λ e. EndsIn n e.target) (with_cap most) n.edges is.wired.targets;
    caps = All-map (λ e. IsCap e.cap) (with_cap most) n.edges (λ k d within. is_cap);
    one_in = λ i few. same_count most (is_input i) (λ e. refl) n.edges ∙ is.wired.one_in i few;
    one_out = λ o few. same_count most (is_output o) (λ e. refl) n.edges ∙ is.wired.one_out o few;
    few_in = λ s few. let same = same_count most (enters s) (λ e. refl) n.edges in let few_there = is.wired.few_in s few in omega (arith, same, few_there);
    few_out = λ s few. let same = same_count most (leaves s) (λ e. refl) n.edges in let few_there = is.wired.few_out s few in omega (arith, same, few_there);
  }

  pub capped_is_network : IsNetwork (with_caps most n)
  capped_is_network = record {
    wired = capped_is_wired;
    prioritised = plain_is_prioritised (with_caps most n) (record { gives = refl; takes = refl; merges = refl });
    few_inputs = is.few_inputs;
    few_outputs = is.few_outputs;
    few_splitters = is.few_splitters;
    few_edges = let long = length-map n.edges (with_cap most) in let few = is.few_edges in omega (arith, long, few);
    some_input = is.some_input;
    some_output = is.some_output;
  }

  -- so numbers and edges that are those of the network with this cap are wired
  pub wired_as : (inputs outputs splitters : ℕ) (edges : List Edge) → inputs ≡ n.inputs → outputs ≡ n.outputs → splitters ≡ n.splitters → edges ≡ map (with_cap most) n.edges
      → IsWired (network_of inputs outputs splitters edges)
  wired_as inputs outputs splitters edges a b c d = subst IsWired (sym (λ i. network_of (a i) (b i) (c i) (d i))) capped_is_wired
