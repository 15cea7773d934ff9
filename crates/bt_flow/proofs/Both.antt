-- Answers of tests that are joined, and of a test at each edge of a port.
use Rattle.std.proofs.Common.{◌≡◌, ℕ, Bool, true, false, IsTrue, ◌↔◌, sym, subst, ◌∙◌}
use Rattle.std.specs.List.{AllByRecursion}
use Rattle.std.proofs.lemmas.Bool.{false≢true}
use Rattle.bt_flow.specs.declared.ports.Port.{Port}
use Rattle.bt_flow.specs.declared.ports.Port.TheVariants.{One, Two}
use Rattle.bt_flow.specs.Ports.{numbers_of}

-- a test that fails answers for both
pub fails_first : {P Q : Type 0} (b : Bool) → b ≡ false → IsTrue b ↔ P → IsTrue b ↔ (P × Q)
fails_first b e h = (λ t. absurd (false≢true (sym e ∙ t)), λ pq. h.1 pq.0)

-- after a test that passes the next one answers
pub passes_first : {P Q : Type 0} (b c : Bool) → b ≡ true → IsTrue b ↔ P → IsTrue c ↔ Q → IsTrue c ↔ (P × Q)
passes_first b c e h k = (λ t. (h.0 e, k.0 t), λ pq. k.1 pq.1)

-- a claim that is as good as another
pub instead : {P Q : Type 0} (b : Bool) → IsTrue b ↔ P → (P → Q) → (Q → P) → IsTrue b ↔ Q
instead b h f g = (λ t. f (h.0 t), λ q. h.1 (g q))

pub port_one : (P : ℕ → Type 0) (port : Port) (a : ℕ) (b : Bool) → port ≡ One a → IsTrue b ↔ P a → IsTrue b ↔ AllByRecursion P (numbers_of port)
port_one P port a b e h = subst (λ p. IsTrue b ↔ AllByRecursion P (numbers_of p)) (sym e) (λ t. (h.0 t, tt), λ q. h.1 q.0)

pub port_fails : (P : ℕ → Type 0) (port : Port) (a c : ℕ) (b : Bool) → port ≡ Two a c → b ≡ false → IsTrue b ↔ P a → IsTrue b ↔ AllByRecursion P (numbers_of port)
port_fails P port a c b e f h = subst (λ p. IsTrue b ↔ AllByRecursion P (numbers_of p)) (sym e) (λ t. absurd (false≢true (sym f ∙ t)), λ q. h.1 q.0)

pub port_two : (P : ℕ → Type 0) (port : Port) (a c : ℕ) (b d : Bool) → port ≡ Two a c → b ≡ true → IsTrue b ↔ P a → IsTrue d ↔ P c
    → IsTrue d ↔ AllByRecursion P (numbers_of port)
port_two P port a c b d e f h k = subst (λ p. IsTrue d ↔ AllByRecursion P (numbers_of p)) (sym e) (λ t. (h.0 f, (k.0 t, tt)), λ q. k.1 q.1.0)
