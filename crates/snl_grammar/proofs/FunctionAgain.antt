-- Parameters, functions and structs are read again.
use Rattle.std.proofs.Common.{◌≡◌, ℕ, zero, suc, Bool, true, false, List, [], ◌∷◌, Option, Some, None, Ok, refl, sym, ap, subst}
use Rattle.snl_lex.specs.declared.kind.Kind.{Kind}
use Rattle.snl_lex.specs.declared.kind.Kind.TheVariants as kind
use Rattle.snl_grammar.specs.declared.tree.expression.Expr.{Expr}
use Rattle.snl_grammar.specs.declared.tree.declaration.Declaration.{Declaration}
use Rattle.snl_grammar.specs.declared.tree.declaration.Parameter.{Parameter}
use Rattle.snl_grammar.specs.declared.tree.statement.Member.{Member}
use Rattle.snl_grammar.specs.declared.tree.item.Function.{Function}
use Rattle.snl_grammar.specs.declared.tree.item.StructMember.{StructMember}
use Rattle.snl_grammar.specs.declared.tree.item.StructMember.TheVariants as members
use Rattle.snl_grammar.specs.Tokens.{NumberedKind, same}
use Rattle.snl_grammar.specs.Steps.{Reader, kind_at, expect, many}
use Rattle.snl_grammar.specs.Grammar.Base.{Each, First, Leaf, Perhaps}
use Rattle.snl_grammar.specs.Grammar.Expressions.{IsAfterComma, AreCommas, IsAssignx}
use Rattle.snl_grammar.specs.Grammar.Declarations.{IsLength}
use Rattle.snl_grammar.specs.Grammar.Functions.{IsParameterOf, IsParameter, AreParameters, IsBody, IsStructMember, declaration as is_declaration, c_block as is_c_block}
use Rattle.snl_grammar.specs.Reading.Types.{type_of, stars, begins_type}
use Rattle.snl_grammar.specs.Reading.Expressions.{assignx, commas, next_comma}
use Rattle.snl_grammar.specs.Reading.Declarations.{lengths}
use Rattle.snl_grammar.specs.Reading.Functions.{some_name, name_by, name_part, parameter_in, parameter, some_parameters, parameters_by, parameters, some_body, body_by, body, function_from, declared_member, c_member, member_by, next_member, struct_members}
use Rattle.snl_grammar.proofs.Local.{Local, Eats}
use Rattle.snl_grammar.proofs.Again.{ReadsBack, read, late, reads_back_at, reads_back_as, reads_back_from, bind_reads_back, pure_reads_back, expect_reads_back, first_reads_back, kind_first, Heads, first_heads, Lacks, first_lacks, differ, many_reads_back}
use Rattle.snl_grammar.proofs.TypeLaws.{word_reads_back, type_begins, type_reads_back, stars_reads_back, TypeStops, goes_on, first_type_stops}
use Rattle.snl_grammar.proofs.Follow.{Stops}
use Rattle.snl_grammar.proofs.ExpressionLocal.{comma_eats, assignx_local}
use Rattle.snl_grammar.proofs.ExpressionAgain.{begins_expr, no_comma, comma_reads_back}
use Rattle.snl_grammar.proofs.SingleAgain.{assignx_begins, assignx_again}
use Rattle.snl_grammar.proofs.DeclarationAgain.{heads_lack, lengths_reads_back, stars_stop}
use Rattle.snl_grammar.proofs.FunctionLocal.{next_member_eats}

-- ---- lists with commas, of elements that the kinds `ends` may follow

module _ (free : ℕ) {A : Type 0} (R : A → List NumberedKind → List NumberedKind → Type 0) (p : Reader A) (local : Local p) (ends : Kind → Bool) (comma_ends : ends kind.Comma ≡ true) (again : (x : A) (k rest : List NumberedKind) → R x k rest → Heads ends rest → ReadsBack free (p k) x rest) where
  comma_heads : (x : A) (k m : List NumberedKind) → IsAfterComma R x k m → Heads ends k
  comma_heads x k m is = first_heads kind.Comma ends k is.mid comma_ends is.comma

  comma_again : (x : A) (k m : List NumberedKind) → IsAfterComma R x k m → Heads ends m → ReadsBack free (next_comma p k) (Some x) m
  comma_again x k m is h = comma_reads_back free R p x k m is (again x is.mid m is.element h)

  after_element : (xs : List A) (k rest : List NumberedKind) → Each (IsAfterComma R) xs k rest → Heads ends rest → Heads ends k
  after_element [] k rest each h = subst (Heads ends) (sym each) h
  after_element (x ∷ xs) k rest each h = comma_heads x k each.0 each.1

  pub commas_reads_back : (xs : List A) (k rest : List NumberedKind) → AreCommas R xs k rest → Heads ends rest → Lacks kind.Comma rest → ReadsBack free (commas p k) xs rest
  unfolding commas
  commas_reads_back [] k rest is h c = absurd is
  commas_reads_back (x ∷ xs) k rest is h c =
      bind_reads_back free (p k) _ x is.0 (x ∷ xs) rest (again x k is.0 is.1 (after_element xs is.0 rest is.2 h))
      (many_reads_back free (next_comma p) (comma_eats p local) (IsAfterComma R) (Heads ends) comma_heads comma_again (x ∷ []) xs is.0 rest is.2 h (no_comma free p rest c))

-- ---- a parameter

-- a comma or a closing bracket is after a parameter
abbrev pub ends_parameter : Kind → Bool
ends_parameter kind.Comma = true
ends_parameter kind.CloseParen = true
ends_parameter _ = false

-- the next token goes on neither with a type nor with its stars
abbrev StarsStop : List NumberedKind → Type 0
StarsStop k = TypeStops k × Lacks kind.Star k

first_stars_stop : (x : Kind) (k rest : List NumberedKind) → goes_on x ≡ false → same x kind.Const ≡ false → same x kind.Star ≡ false → First x k rest → StarsStop k
first_stars_stop x k rest g c s f = (first_type_stops x k rest g c f, first_lacks x kind.Star k rest s f)

end_of_base : (d : Kind) → ends_parameter d ≡ true → goes_on d ≡ false
end_of_base kind.Comma h = refl
end_of_base kind.CloseParen h = refl
end_of_base _ h = absurd cc

end_stops : (k : List NumberedKind) → Heads ends_parameter k → StarsStop k
end_stops [] h = absurd h
end_stops (s ∷ k) h = ((end_of_base s.0 h, differ ends_parameter s.0 kind.Const h refl), differ ends_parameter s.0 kind.Star h refl)

no_name_by : (d : Kind) (k : List NumberedKind) → same d kind.Name ≡ false → name_by (Some d) k ≡ Ok (None, k)
no_name_by kind.Name k e = absurd cc
no_name_by _ k e = refl

no_name : (free : ℕ) (k : List NumberedKind) → Lacks kind.Name k → ReadsBack free (name_part k) None k
unfolding name_part kind_at
no_name free [] h = read refl
no_name free (s ∷ k) h = read (no_name_by s.0 (s ∷ k) h)

name_part_reads_back : (free : ℕ) (t : Option ℕ) (k rest : List NumberedKind) → Perhaps (Leaf kind.Name) t k rest → Lacks kind.Name rest → ReadsBack free (name_part k) t rest
unfolding name_part some_name
name_part_reads_back free None k rest is h = reads_back_from free name_part k rest None rest is (no_name free rest h)
name_part_reads_back free (Some n) k rest is h =
    reads_back_at free (name_part k) (name_by (Some kind.Name) k) (Some n) rest (ap (λ o. name_by o k) (kind_first kind.Name k rest (n, is)))
    (bind_reads_back free (expect kind.Name k) _ n rest (Some n) rest (expect_reads_back free kind.Name n k rest is) (pure_reads_back free (Some n) rest))

name_stops : (t : Option ℕ) (k rest : List NumberedKind) → Perhaps (Leaf kind.Name) t k rest → StarsStop rest → StarsStop k
name_stops None k rest is h = subst StarsStop (sym is) h
name_stops (Some n) k rest is h = first_stars_stop kind.Name k rest refl refl refl (n, is)

module _ (free : ℕ) (Inner : Expr → List NumberedKind → List NumberedKind → Type 0) (inner : Reader Expr) (local : Local inner) (again : (x : Expr) (k rest : List NumberedKind) → Inner x k rest → Stops 12 rest → ReadsBack free (inner k) x rest) (begins : (x : Expr) (k rest : List NumberedKind) → Inner x k rest → Heads begins_expr k) where
  lengths_stop : (ls : List (Option Expr)) (k rest : List NumberedKind) → Each (IsLength Inner) ls k rest → Heads ends_parameter rest → StarsStop k
  lengths_stop [] k rest each h = subst StarsStop (sym each) (end_stops rest h)
  lengths_stop (l ∷ ls) k rest each h = first_stars_stop kind.OpenBracket k each.1.m1 refl refl refl each.1.opening

  lengths_lack_name : (ls : List (Option Expr)) (k rest : List NumberedKind) → Each (IsLength Inner) ls k rest → Heads ends_parameter rest → Lacks kind.Name k
  lengths_lack_name [] k rest each h = subst (Lacks kind.Name) (sym each) (heads_lack kind.Name ends_parameter rest refl h)
  lengths_lack_name (l ∷ ls) k rest each h = first_lacks kind.OpenBracket kind.Name k each.1.m1 refl each.1.opening

  parameter_in_reads_back : (t : Parameter) (k rest : List NumberedKind) → IsParameterOf Inner t k rest → Heads ends_parameter rest → ReadsBack free (parameter_in inner k) t rest
  unfolding parameter_in
  parameter_in_reads_back t k rest is h =
      let stop : StarsStop is.m2 = name_stops t.name is.m2 is.m3 is.name (lengths_stop t.lengths is.m3 rest is.lengths h) in
      bind_reads_back free (type_of k) _ t.of is.m1 t rest (type_reads_back free t.of k is.m1 is.of_type (stars_stop t.pointers is.m1 is.m2 is.stars stop.0))
      (bind_reads_back free (stars is.m1) _ t.pointers is.m2 t rest (stars_reads_back free t.pointers is.m1 is.m2 is.stars stop.0.1 stop.1)
      (bind_reads_back free (name_part is.m2) _ t.name is.m3 t rest (name_part_reads_back free t.name is.m2 is.m3 is.name (lengths_lack_name t.lengths is.m3 rest is.lengths h))
      (bind_reads_back free (lengths inner is.m3) _ t.lengths rest t rest (lengths_reads_back free Inner inner local again begins t.lengths is.m3 rest is.lengths (heads_lack kind.OpenBracket ends_parameter rest refl h)) (pure_reads_back free t rest))))

pub parameter_again : (free extra depth : ℕ) (t : Parameter) (k rest : List NumberedKind) → IsParameter free extra depth t k rest → Heads ends_parameter rest → ReadsBack free (parameter depth k) t rest
unfolding parameter
parameter_again free extra (suc depth) t k rest is h = parameter_in_reads_back free (IsAssignx free extra depth) (assignx depth) (assignx_local depth) (assignx_again free extra depth) (assignx_begins free extra depth) t k rest is h
parameter_again free (suc extra) zero t k rest is h = late k refl is.0
parameter_again free zero zero t k rest is h = absurd is

pub parameter_begins : (free extra depth : ℕ) (t : Parameter) (k rest : List NumberedKind) → IsParameter free extra depth t k rest → begins_type (kind_at k) ≡ true
parameter_begins free extra (suc depth) t k rest is = type_begins t.of k is.m1 is.of_type
parameter_begins free (suc extra) zero t k rest is = type_begins t.of k is.1.m1 is.1.of_type
parameter_begins free zero zero t k rest is = absurd is

-- ---- parameters in brackets, and functions

module _ (free : ℕ) (Inner : Parameter → List NumberedKind → List NumberedKind → Type 0) (p : Reader Parameter) (local : Local p) (begins : (x : Parameter) (k rest : List NumberedKind) → Inner x k rest → begins_type (kind_at k) ≡ true) (again : (x : Parameter) (k rest : List NumberedKind) → Inner x k rest → Heads ends_parameter rest → ReadsBack free (p k) x rest) where
  by_parameter : (o : Option Kind) → begins_type o ≡ true → parameters_by p o ≡ some_parameters p
  by_parameter (Some kind.CloseParen) e = absurd cc
  by_parameter _ e = refl

  in_brackets_reads_back : (xs : List Parameter) (k rest : List NumberedKind) → AreParameters Inner xs k rest → ReadsBack free (parameters_by p (kind_at k) k) xs rest
  unfolding some_parameters
  in_brackets_reads_back [] k rest is = reads_back_at free (parameters_by p (kind_at k) k) (parameters_by p (Some kind.CloseParen) k) [] rest (ap (λ o. parameters_by p o k) (kind_first kind.CloseParen k rest is)) (word_reads_back free kind.CloseParen [] k rest is)
  in_brackets_reads_back (x ∷ xs) k rest is =
      reads_back_at free (parameters_by p (kind_at k) k) (some_parameters p k) (x ∷ xs) rest (ap (λ (q : Reader (List Parameter)). q k) (by_parameter (kind_at k) (begins x k is.1.0 is.1.1)))
      (bind_reads_back free (commas p k) _ (x ∷ xs) is.0 (x ∷ xs) rest (commas_reads_back free Inner p local ends_parameter refl again (x ∷ xs) k is.0 is.1 (first_heads kind.CloseParen ends_parameter is.0 rest refl is.2) (first_lacks kind.CloseParen kind.Comma is.0 rest refl is.2))
      (bind_reads_back free (expect kind.CloseParen is.0) _ is.2.0 rest (x ∷ xs) rest (first_reads_back free kind.CloseParen is.0 rest is.2) (pure_reads_back free (x ∷ xs) rest)))

  pub parameters_reads_back : (xs : List Parameter) (k mid rest : List NumberedKind) → First kind.OpenParen k mid → AreParameters Inner xs mid rest → ReadsBack free (parameters p k) xs rest
  unfolding parameters
  parameters_reads_back xs k mid rest f is = bind_reads_back free (expect kind.OpenParen k) _ f.0 mid xs rest (first_reads_back free kind.OpenParen k mid f) (in_brackets_reads_back xs mid rest is)

  -- a block begins with a brace
  module _ (Block : List Member → List NumberedKind → List NumberedKind → Type 0) (block : Reader (List Member)) (opens : (b : List Member) (k rest : List NumberedKind) → Block b k rest → (mid : List NumberedKind) × First kind.OpenBrace k mid) (block_again : (b : List Member) (k rest : List NumberedKind) → Block b k rest → ReadsBack free (block k) b rest) where
    pub body_reads_back : (t : Option (List Member)) (k rest : List NumberedKind) → IsBody Block t k rest → ReadsBack free (body block k) t rest
    unfolding body some_body
    body_reads_back None k rest is = reads_back_at free (body block k) (body_by block (Some kind.Semicolon) k) None rest (ap (λ o. body_by block o k) (kind_first kind.Semicolon k rest is)) (word_reads_back free kind.Semicolon None k rest is)
    body_reads_back (Some b) k rest is =
        let f = opens b k rest is in
        reads_back_at free (body block k) (body_by block (Some kind.OpenBrace) k) (Some b) rest (ap (λ o. body_by block o k) (kind_first kind.OpenBrace k f.0 f.1))
        (bind_reads_back free (block k) _ b rest (Some b) rest (block_again b k rest is) (pure_reads_back free (Some b) rest))

    -- a function after its name
    pub function_from_reads_back : (t : Function) (k m1 m2 rest : List NumberedKind) → First kind.OpenParen k m1 → AreParameters Inner t.parameters m1 m2 → IsBody Block t.body m2 rest → ReadsBack free (function_from p block t.of t.pointers t.name k) t rest
    unfolding function_from
    function_from_reads_back t k m1 m2 rest f is b =
        bind_reads_back free (parameters p k) _ t.parameters m2 t rest (parameters_reads_back t.parameters k m1 m2 f is)
        (bind_reads_back free (body block m2) _ t.body rest t rest (body_reads_back t.body m2 rest b) (pure_reads_back free t rest))

-- ---- structs

module _ (free : ℕ) (Inner : Declaration → List NumberedKind → List NumberedKind → Type 0) (inner : Reader Declaration) (local : Local inner) (eats : Eats inner) (begins : (d : Declaration) (k rest : List NumberedKind) → Inner d k rest → begins_type (kind_at k) ≡ true) (again : (d : Declaration) (k rest : List NumberedKind) → Inner d k rest → ReadsBack free (inner k) d rest) where
  by_declaration : (o : Option Kind) → begins_type o ≡ true → member_by inner o ≡ declared_member inner
  by_declaration (Some kind.CloseBrace) e = absurd cc
  by_declaration (Some kind.CCode) e = absurd cc
  by_declaration _ e = refl

  some_member : (x y : StructMember) (k m : List NumberedKind) → x ≡ y → ReadsBack free (next_member inner k) (Some x) m → ReadsBack free (next_member inner k) (Some y) m
  some_member x y k m e c = reads_back_as free (next_member inner k) (Some x) (Some y) m (ap (λ (z : StructMember). Some z) e) c

  member_reads_back : (t : StructMember) (k m : List NumberedKind) → IsStructMember Inner t k m → Unit {0} → ReadsBack free (next_member inner k) (Some t) m
  unfolding next_member declared_member c_member
  member_reads_back t k m (is_declaration d is r) u =
      some_member (members.Declaration d) t k m (sym is)
      (reads_back_at free (next_member inner k) (declared_member inner k) (Some (members.Declaration d)) m (ap (λ (q : Reader (Option StructMember)). q k) (by_declaration (kind_at k) (begins d k m r)))
      (bind_reads_back free (inner k) _ d m (Some (members.Declaration d)) m (again d k m r) (pure_reads_back free (Some (members.Declaration d)) m)))
  member_reads_back t k m (is_c_block n is e) u =
      some_member (members.CBlock n) t k m (sym is)
      (reads_back_at free (next_member inner k) (member_by inner (Some kind.CCode) k) (Some (members.CBlock n)) m (ap (λ o. member_by inner o k) (kind_first kind.CCode k m (n, e)))
      (bind_reads_back free (expect kind.CCode k) _ n m (Some (members.CBlock n)) m (expect_reads_back free kind.CCode n k m e) (pure_reads_back free (Some (members.CBlock n)) m)))

  no_member : (k rest : List NumberedKind) → First kind.CloseBrace k rest → ReadsBack free (next_member inner k) None k
  unfolding next_member
  no_member k rest f = read (ap (λ o. member_by inner o k) (kind_first kind.CloseBrace k rest f))

  -- what comes after `struct NAME`
  pub struct_members_reads_back : (xs : List StructMember) (k m1 m2 m3 rest : List NumberedKind) → First kind.OpenBrace k m1 → Each (IsStructMember Inner) xs m1 m2 → First kind.CloseBrace m2 m3 → First kind.Semicolon m3 rest → ReadsBack free (struct_members inner k) xs rest
  unfolding struct_members
  struct_members_reads_back xs k m1 m2 m3 rest f each g h =
      bind_reads_back free (expect kind.OpenBrace k) _ f.0 m1 xs rest (first_reads_back free kind.OpenBrace k m1 f)
      (bind_reads_back free (many (next_member inner) [] m1) _ xs m2 xs rest (many_reads_back free (next_member inner) (next_member_eats inner local eats) (IsStructMember Inner) (λ _. Unit {0}) (λ _ _ _ _. tt) member_reads_back [] xs m1 m2 each tt (no_member m2 m3 g))
      (bind_reads_back free (expect kind.CloseBrace m2) _ g.0 m3 xs rest (first_reads_back free kind.CloseBrace m2 m3 g)
      (bind_reads_back free (expect kind.Semicolon m3) _ h.0 rest xs rest (first_reads_back free kind.Semicolon m3 rest h) (pure_reads_back free xs rest))))
