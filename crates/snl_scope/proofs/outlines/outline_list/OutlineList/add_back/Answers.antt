use Rattle.std.proofs.Common.{◌≤◌, ap, drop, length, refl}
use Rattle.snl_scope.specs.OutlineList.{Extends}
use Rattle.snl_scope.proofs.JoinedOutlines.{lists_told, tells_same, told_back, told_joined, told_stays}
use Rattle.snl_scope.proofs.ReadOutlines.{clauses_fit, clauses_start, declares_fit, declares_start, heads_reach, put_part, seen_told}
use Rattle.snl_scope.proofs.outlines.outline_list.OutlineList.add_back.Goals as goal

pub starts-declares-requires-clause-inside : goal.starts-declares-requires-clause-inside
starts-declares-requires-clause-inside c = heads_reach c.self.invariant c.self.view_is c.requires.inside c.deref.ensures.value

pub put_back-requires : goal.put_back-requires
put_back-requires c = heads_reach c.self.invariant c.self.view_is c.requires.inside c.deref-2.ensures.value

pub put_back-requires-2 : goal.put_back-requires-2
put_back-requires-2 c = declares_fit c.self.invariant c.args.back c.starts-declares.ensures c.deref.ensures.value c.deref-3.ensures.value

pub put_back-requires-3 : goal.put_back-requires-3
put_back-requires-3 c = clauses_fit c.self.invariant c.args.back c.starts-declares.ensures c.deref.ensures.value c.deref-4.ensures.value

pub returns : goal.returns
returns c = λ ss t.
    let n = c.args.back in
    let within : n ≤ length c.self.inside.heads.items = heads_reach c.self.invariant c.self.view_is c.requires.inside refl in
    let declares = declares_start c.self.invariant n c.starts-declares.ensures c.deref.ensures.value in
    let clauses = clauses_start c.self.invariant n c.starts-declares.ensures c.deref.ensures.value in
    let more : Extends c.self.inside.names c.args.making.now.names = rw (ap (λ v. v.names) c.self.view_is) c.requires.names in
    tells_same refl
    (put_part drop c.in_ok-put_back.ensures refl refl c.deref-2.ensures.value)
    (put_part drop c.in_ok-put_back-2.ensures refl declares c.deref-3.ensures.value)
    (put_part drop c.in_ok-put_back-3.ensures refl clauses c.deref-4.ensures.value)
    (told_joined (lists_told t) (told_stays (told_back (seen_told c.self.invariant c.self.view_is) n within) more))
