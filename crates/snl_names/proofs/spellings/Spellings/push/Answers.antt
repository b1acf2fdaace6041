use Rattle.std.proofs.Common.{◌≡◌, ℕ, ◌++◌, ◌∷◌, [], ◌∙◌, ap, ap₂, arith, length, subst, sym, List}
use Rattle.snl_cut.specs.Cut.{members}
use Rattle.snl_names.specs.Spellings.{AreEnds}
use Rattle.snl_names.proofs.Ends.{ends_push, members_push}
use Rattle.snl_names.proofs.spellings.Spellings.push.Goals as goal

pub invariant_of-self-2 : goal.invariant_of-self-2
invariant_of-self-2 c =
    let bytes : List ℕ = c.self.inside.bytes.items in
    let ends : List ℕ = c.self.inside.ends.items in
    let all : c.extend_from_slice.new.self.items ≡ bytes ++ c.args.name.now = c.in_ok-extend_from_slice.ensures.items in
    let end : c.len-end.result ≡ length (bytes ++ c.args.name.now) = omega (arith, c.len-end.ensures, c.extend_from_slice.new.self.ok, ap length all) in
    let at : c.push_reserved.new.self.items ≡ ends ++ c.len-end.result ∷ [] = c.push_reserved.ensures.items ∙ ap (λ (es : List ℕ). es ++ c.len-end.result ∷ []) c.in_ok-reserve.ensures.items in
    subst (λ (bs : List ℕ). AreEnds bs c.push_reserved.new.self.items) (sym all)
    (subst (λ (es : List ℕ). AreEnds (bytes ++ c.args.name.now) es) (sym at)
    (ends_push bytes c.args.name.now ends c.len-end.result c.self.invariant end))

pub returns-clause-ok : goal.returns-clause-ok
returns-clause-ok c =
    let bytes : List ℕ = c.self.inside.bytes.items in
    let ends : List ℕ = c.self.inside.ends.items in
    let all : c.extend_from_slice.new.self.items ≡ bytes ++ c.args.name.now = c.in_ok-extend_from_slice.ensures.items in
    let end : c.len-end.result ≡ length (bytes ++ c.args.name.now) = omega (arith, c.len-end.ensures, c.extend_from_slice.new.self.ok, ap length all) in
    let at : c.push_reserved.new.self.items ≡ ends ++ c.len-end.result ∷ [] = c.push_reserved.ensures.items ∙ ap (λ (es : List ℕ). es ++ c.len-end.result ∷ []) c.in_ok-reserve.ensures.items in
    ap₂ (λ (bs es : List ℕ). members bs 0 es) all at
    ∙ members_push bytes c.args.name.now ends c.len-end.result c.self.invariant end
    ∙ ap (λ (ns : List (List ℕ)). ns ++ c.args.name.now ∷ []) c.self.view_is
