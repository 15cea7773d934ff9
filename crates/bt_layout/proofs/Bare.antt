-- Parts that lay a request whose splitters prefer nothing lay it with that, without priorities.
use Rattle.std.proofs.Common.{◌≡◌, ℕ, ◌+◌, ◌<◌, List, [], length, None, Some, Option, slice_get, ◌∙◌, subst, ⊎_elim, arith}
use Rattle.std.specs.Prelude.{MatchOption}
use Rattle.std.specs.List.{Contains}
use Rattle.std.proofs.lemmas.Bool.{cases_lt}
use Rattle.std.proofs.lemmas.Option.{slice_get_within}
use Rattle.bt_parts.specs.declared.part.Part.{Part}
use Rattle.bt_net.specs.declared.network.Edge.{Edge}
use Rattle.bt_net.specs.Network.{IsNetwork, preferred_in}
use Rattle.bt_model.specs.Chains.{Chain, IsChain}
use Rattle.bt_model.specs.Laying.{Lays, LaysPreferring}
use Rattle.bt_model.specs.Preferring.{ArePreferred, IsGivenFirst, IsTakenFirst}
use Rattle.bt_model.specs.Requests.{LayoutRequest}
use Rattle.bt_model.specs.Shown.{IsEdgeOf}
use Rattle.bt_layout_check.proofs.Listing.{along, each_moved}
use Rattle.bt_layout_check.proofs.Marks.{flipped}
use Rattle.bt_layout.specs.inner.Bare.{PrefersNothing}

-- what holds below a number and of it holds below the next
pub below_more : (P : ℕ → Type 0) (n : ℕ) → ((k : ℕ) → k < n → P k) → P n → (k : ℕ) → k < n + 1 → P k
below_more P n before here k lt = ⊎_elim (λ less. before k less) (λ more. subst P (let same : n ≡ k = omega (arith, lt, more) in same) here) (cases_lt k n)

-- what is said of none is said
none_said : {X : Type 0} (o : Option X) (N : Type 0) (S : X → Type 0) → o ≡ None → N → MatchOption o N S
none_said None N S e n = n
none_said (Some x) N S e n = absurd (cc)

-- without priorities no chain is preferred
none_given : (parts : List Part) (chain : Chain) (s : ℕ) → IsGivenFirst parts [] chain s → ⊥
none_given parts chain s given = given.2.2

none_taken : (parts : List Part) (chain : Chain) (s : ℕ) → IsTakenFirst parts [] chain s → ⊥
none_taken parts chain s taken = taken.2.2

-- a splitter that a network has is one of those that are named, so all prefer nothing
nothing_preferred : (Prefers : Chain → ℕ → Type 0) (splitters : List ℕ) (chains : List Chain) (edges : List (Option ℕ)) → length edges ≡ length splitters
    → ((c : Chain) (s : ℕ) → Prefers c s → ⊥) → ((k : ℕ) → k < length splitters → preferred_in edges k ≡ None) → ArePreferred Prefers splitters chains edges
nothing_preferred Prefers splitters chains edges count never none = record {
  count = count;
  each = λ k s at. none_said (preferred_in edges k) ((c : Chain) → Contains chains c → Prefers c s → ⊥) (λ a. (c : Chain) × (slice_get chains a ≡ Some c) × Prefers c s)
      (none k (slice_get_within splitters k s at)) (λ c there prefers. never c s prefers);
}

pub bare_preferring : (r : LayoutRequest) (parts : List Part) → IsNetwork r.net → PrefersNothing r.net → Lays parts r → LaysPreferring parts [] r
bare_preferring r parts is nothing lays =
    let shows = lays.shows in
    let count = shows.names.splitter_count in
    let new = along (λ (e : Edge) (c : Chain). IsEdgeOf parts lays.naming c e) shows.edges shows.chains r.net.edges
    (flipped (IsEdgeOf parts lays.naming) shows.chains shows.edges shows.named) shows.same in
    record {
      fits = lays.fits;
      naming = lays.naming;
      shows = record {
        clean = shows.clean;
        names = shows.names;
        chains = new.list;
        each_once = each_moved (IsChain parts) shows.chains new.list shows.each_once new.moved;
        named = flipped (λ (e : Edge) (c : Chain). IsEdgeOf parts lays.naming c e) r.net.edges new.list new.agree;
        gives = nothing_preferred (IsGivenFirst parts []) lays.naming.splitters new.list r.net.gives (is.prioritised.gives_each ∙ count) (none_given parts)
            (λ k lt. (nothing k (omega (arith, lt, count))).0);
        takes = nothing_preferred (IsTakenFirst parts []) lays.naming.splitters new.list r.net.takes (is.prioritised.takes_each ∙ count) (none_taken parts)
            (λ k lt. (nothing k (omega (arith, lt, count))).1);
      };
      demands = lays.demands;
    }
