-- Where an `else` comes next, what was read is closed.
use Rattle.std.proofs.Common.{◌≡◌, ℕ, List, ◌++◌, Option, Some, Ok, refl, sym, ap, subst, ◌∙◌, append_assoc}
use Rattle.snl_lex.specs.declared.kind.Kind.{Kind}
use Rattle.snl_lex.specs.declared.kind.Kind.TheVariants as kind
use Rattle.snl_grammar.specs.Tokens.{NumberedKind}
use Rattle.snl_grammar.specs.Steps.{Reader, and_then, pure, refuse, kind_at}
use Rattle.snl_grammar.proofs.Local.{bind_ok, ok_is}
use Rattle.snl_grammar.proofs.Viable.{Viable, Completable, Exists, Both, both, IsNothing}

pub record Shut {A : Type 0} (p : Reader A) (R : A → List NumberedKind → List NumberedKind → Type 0) : Type 0 where
  pub shuts : (k : List NumberedKind) (x : A) (m : List NumberedKind) → p k ≡ Ok (x, m) → kind_at m ≡ Some kind.Else → (front : List NumberedKind) × (k ≡ front ++ m) × ((after : List NumberedKind) → R x (front ++ after) after)

pub viable_shut : (free extra : ℕ) {A : Type 0} (p : Reader A) (R : A → List NumberedKind → List NumberedKind → Type 0) (G : List NumberedKind → List NumberedKind → Type 0) → Viable free extra p R G → Shut p R
viable_shut free extra p R G v = record { shuts = λ k x m e h. v.takes k x m e }

pub into_shut : {A : Type 0} (p : Reader A) (R R' : A → List NumberedKind → List NumberedKind → Type 0) → ((x : A) (k rest : List NumberedKind) → R x k rest → R' x k rest) → Shut p R → Shut p R'
into_shut p R R' into s = record { shuts = λ k x m e h. let t = s.shuts k x m e h in (t.0, t.1, λ after. into x (t.0 ++ after) after (t.2 after)) }

pub choice_shut : {A : Type 0} (by : Option Kind → Reader A) (R : A → List NumberedKind → List NumberedKind → Type 0) → ((o : Option Kind) → Shut (by o) R) → Shut (λ k. by (kind_at k) k) R
choice_shut by R each = record { shuts = λ k x m e h. (each (kind_at k)).shuts k x m e h }

pub same_shut : {A : Type 0} (p q : Reader A) (R : A → List NumberedKind → List NumberedKind → Type 0) → ((k : List NumberedKind) → p k ≡ q k) → Shut q R → Shut p R
same_shut p q R same s = record { shuts = λ k x m e h. s.shuts k x m (sym (same k) ∙ e) h }

pub same_viable : (free extra : ℕ) {A : Type 0} (p q : Reader A) (R : A → List NumberedKind → List NumberedKind → Type 0) (G : List NumberedKind → List NumberedKind → Type 0) → ((k : List NumberedKind) → p k ≡ q k) → Viable free extra q R G → Viable free extra p R G
same_viable free extra p q R G same v = record { takes = λ k x m e. v.takes k x m (sym (same k) ∙ e); stuck = λ k j e. v.stuck k j (sym (same k) ∙ e) }

pub same_completable : (free extra : ℕ) {A : Type 0} (p q : Reader A) (R : A → List NumberedKind → List NumberedKind → Type 0) (some : List Kind) → ((k : List NumberedKind) → p k ≡ q k) → Completable free extra q R some → Completable free extra p R some
same_completable free extra p q R some same f = record { viable = same_viable free extra p q R (Exists R) same f.viable; makes = f.makes }

pub bind_shut : (free extra : ℕ) {A B : Type 0} (p : Reader A) (f : A → Reader B) (R : A → List NumberedKind → List NumberedKind → Type 0) (S : A → B → List NumberedKind → List NumberedKind → Type 0) (G : List NumberedKind → List NumberedKind → Type 0) → Viable free extra p R G → ((x : A) → Shut (f x) (S x)) → Shut (λ k. and_then (p k) f) (Both R S)
bind_shut free extra p f R S G first second = record {
  shuts = λ k y m e h. bind_ok (p k) f (y, m) e (λ x m' e1 e2.
      let u = first.takes k x m' e1 in
      let v = (second x).shuts m' y m e2 h in (
        u.0 ++ v.0,
        u.1 ∙ ap (λ (l : List NumberedKind). u.0 ++ l) v.1 ∙ sym (append_assoc u.0 v.0 m),
        λ after.
            subst (λ (l : List NumberedKind). Both R S y l after) (sym (append_assoc u.0 v.0 after)) (both x (v.0 ++ after) (u.2 (v.0 ++ after)) (v.2 after)),
      ));
}

-- the value is made of what was read last
pub map_shut : {A B : Type 0} (p : Reader A) (make : A → B) (R : A → List NumberedKind → List NumberedKind → Type 0) → Shut p R → Shut (λ k. and_then (p k) (λ x. pure (make x))) (Both R (λ x. IsNothing (make x)))
map_shut p make R s = record {
  shuts = λ k y m e h. bind_ok (p k) (λ x. pure (make x)) (y, m) e (λ x m' e1 e2.
      let v = ok_is (make x) y m' m e2 in
      let t = s.shuts k x m' e1 (ap kind_at v.1 ∙ h) in
      (t.0, t.1 ∙ ap (λ (l : List NumberedKind). t.0 ++ l) v.1, λ after. both x after (t.2 after) (v.0, refl)));
}

pub refuse_shut : {A : Type 0} (R : A → List NumberedKind → List NumberedKind → Type 0) → Shut refuse R
refuse_shut R = record { shuts = λ k x m e h. absurd cc }
