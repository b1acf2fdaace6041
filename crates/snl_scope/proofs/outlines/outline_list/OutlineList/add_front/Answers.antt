use Rattle.std.proofs.Common.{◌≤◌, ap, length, refl, sym, take, ◌∙◌}
use Rattle.snl_scope.proofs.JoinedOutlines.{tells_same, told_front}
use Rattle.snl_scope.proofs.ReadOutlines.{clauses_fit, clauses_start, declares_fit, declares_start, heads_reach, put_part, seen_told}
use Rattle.snl_scope.proofs.outlines.outline_list.OutlineList.add_front.Goals as goal

pub starts-declares-requires-clause-inside : goal.starts-declares-requires-clause-inside
starts-declares-requires-clause-inside c = heads_reach c.self.invariant c.self.view_is c.requires.inside c.deref.ensures.value

pub put_front-requires : goal.put_front-requires
put_front-requires c = heads_reach c.self.invariant c.self.view_is c.requires.inside c.deref-2.ensures.value

pub put_front-requires-2 : goal.put_front-requires-2
put_front-requires-2 c = declares_fit c.self.invariant c.args.front c.starts-declares.ensures c.deref.ensures.value c.deref-3.ensures.value

pub put_front-requires-3 : goal.put_front-requires-3
put_front-requires-3 c = clauses_fit c.self.invariant c.args.front c.starts-declares.ensures c.deref.ensures.value c.deref-4.ensures.value

pub returns-clause-told : goal.returns-clause-told
returns-clause-told c =
    let n = c.args.front in
    let within : n ≤ length c.self.inside.heads.items = heads_reach c.self.invariant c.self.view_is c.requires.inside refl in
    let declares = declares_start c.self.invariant n c.starts-declares.ensures c.deref.ensures.value in
    let clauses = clauses_start c.self.invariant n c.starts-declares.ensures c.deref.ensures.value in
    tells_same (c.requires.names ∙ sym (ap (λ v. v.names) c.self.view_is))
    (put_part take c.in_ok-put_front.ensures c.requires.heads refl c.deref-2.ensures.value)
    (put_part take c.in_ok-put_front-2.ensures c.requires.declares declares c.deref-3.ensures.value)
    (put_part take c.in_ok-put_front-3.ensures c.requires.clauses clauses c.deref-4.ensures.value)
    (told_front (seen_told c.self.invariant c.self.view_is) n within)
