use Rattle.std.proofs.Common.{◌≡◌, ◌+◌, ◌++◌, ◌∷◌, [], ◌&&◌, Bool, false, not, List, Option, length, length-append, map, take, ap, append_assoc, arith, subst, sym, ◌∙◌, if◌then◌else◌}
use Rattle.std.proofs.lemmas.List.{map-append, take_all, take_more}
use Rattle.std.specs.Option.{option_map_or, option_to_list}
use Rattle.snl_codes.specs.declared.code.Code.{Code}
use Rattle.snl_codes.specs.declared.code.Code.TheVariants.{E14}
use Rattle.snl_scope.specs.declared.facts.LinkFault.{LinkFault}
use Rattle.snl_scope.specs.Claims.{Claimed}
use Rattle.snl_scope.specs.Clauses.{LinkedClause, at_name_ref, clause_link, found_after, found_at, found_at_flag, found_at_variable, has_wrong_flag, is_sound, sound_after, variable_code}
use Rattle.snl_codes.specs.Codes.{is_error}
use Rattle.snl_scope.specs.Names.{entries}
use Rattle.snl_scope.specs.Resolved.{linked}
use Rattle.snl_scope.proofs.Judging.{found-push, judged-push, judged_after, links-push, links_after, sound-judged}
use Rattle.snl_scope.proofs.clauses.soundness.judge_all.Goals as goal

pub loop-clause-preserved : goal.loop-clause-preserved
loop-clause-preserved c =
    let es = entries c.args.scopes.now in
    let cs = map linked c.args.clauses.now in
    let i = c.loop-clause.clause-index in
    let known = c.loop-clause.invariant in
    let d : LinkedClause = linked c.clause-item.result in
    let here : List LinkedClause = map linked (take i c.args.clauses.now) in
    let sound : List LinkedClause = sound_after es cs [] here in
    let more : here ++ d ∷ [] ≡ map linked (take (i + 1) c.args.clauses.now) =
    sym (ap (map linked) (take_more c.args.clauses.now i c.clause-item.result (omega (arith, c.loop-clause-test.true)) ∙ ap (λ x. take i c.args.clauses.now ++ x ∷ []) (sym c.clause-item.is))
    ∙ map-append linked (take i c.args.clauses.now) (c.clause-item.result ∷ [])) in
    let judged_here : List (LinkedClause × Bool) = judged_after es cs [] here in
    let code : c.variable_code-code.result ≡ variable_code es cs sound d =
    c.variable_code-code.ensures cs judged_here c.requires.assigned known.claimed ∙ ap (λ l. variable_code es cs l d) (sound-judged es cs [] here) in
    let wrong : c.has_wrong_flag-is_flag_wrong.result ≡ has_wrong_flag es d = c.has_wrong_flag-is_flag_wrong.ensures in
    let judged : c.is_sound-is_sound.result ≡ is_sound es cs sound d =
    c.is_sound-is_sound.ensures ∙ ap (λ (o : Option Code). not (option_map_or is_error o false) && not c.has_wrong_flag-is_flag_wrong.result) code
    ∙ ap (λ b. not (option_map_or is_error (variable_code es cs sound d) false) && not b) wrong in
    let judged_more = sym (judged-push es cs [] here d) ∙ ap (judged_after es cs []) more in
    let number : c.len.result ≡ length judged_here = c.len.ensures ∙ known.counted in
    let claimed : Claimed c.make_claims.new.claims (judged_here ++ (d, is_sound es cs sound d) ∷ []) =
    subst (λ (b : Bool). Claimed c.make_claims.new.claims (judged_here ++ (d, b) ∷ [])) judged (c.in_ok-make_claims.ensures judged_here number known.claimed) in
    let before : List LinkFault = c.args.faults.now.items in
    let at_variable : c.add_at_variable.new.faults.items ≡ (before ++ found_after es cs [] here) ++ found_at_variable es cs sound d =
    c.in_ok-add_at_variable.ensures ∙ ap (λ (o : Option Code). c.loop-clause.faults.items ++ map (at_name_ref d.item d.clause.variable) (option_to_list o)) code
    ∙ ap (λ l. l ++ found_at_variable es cs sound d) known.found in
    let at_flag : c.add_at_flag.new.faults.items ≡ ((before ++ found_after es cs [] here) ++ found_at_variable es cs sound d) ++ found_at_flag es d =
    c.in_ok-add_at_flag.ensures ∙ ap (λ b. c.add_at_variable.new.faults.items ++ (if b then map (λ m. at_name_ref d.item m E14) (option_to_list d.clause.flag) else [])) wrong
    ∙ ap (λ l. l ++ found_at_flag es d) at_variable in
    record {
      claimed = subst (Claimed c.make_claims.new.claims) judged_more claimed;
      counted = c.in_ok-push.ensures.len ∙ ap (λ n. n + 1) known.counted ∙ sym (length-append judged_here ((d, is_sound es cs sound d) ∷ [])) ∙ ap length judged_more;
      links =
          c.in_ok-push.ensures.items ∙ ap (λ l. l ++ c.link_of.result ∷ []) known.links ∙ ap (λ x. links_after es cs [] here ++ x ∷ []) (c.link_of.ensures ∙ ap (clause_link d) judged)
          ∙ sym (links-push es cs [] here d) ∙ ap (links_after es cs []) more;
      found =
          at_flag ∙ append_assoc (before ++ found_after es cs [] here) (found_at_variable es cs sound d) (found_at_flag es d)
          ∙ append_assoc before (found_after es cs [] here) (found_at es cs sound d)
          ∙ ap (λ l. before ++ l) (sym (found-push es cs [] here d) ∙ ap (found_after es cs []) more);
    }

pub returns-clause-links : goal.returns-clause-links
returns-clause-links c =
    let clauses = c.args.clauses.now in
    c.loop-clause.invariant.links
    ∙ ap (λ l. links_after (entries c.args.scopes.now) (map linked clauses) [] (map linked l)) (take_all c.loop-clause.clause-index clauses (omega (arith, c.loop-clause-test.false)))

pub returns-clause-claims : goal.returns-clause-claims
returns-clause-claims c =
    let clauses = c.args.clauses.now in
    subst (λ l. Claimed c.loop-clause.claims (judged_after (entries c.args.scopes.now) (map linked clauses) [] (map linked l)))
    (take_all c.loop-clause.clause-index clauses (omega (arith, c.loop-clause-test.false))) c.loop-clause.invariant.claimed

pub returns-clause-found : goal.returns-clause-found
returns-clause-found c =
    let clauses = c.args.clauses.now in
    c.loop-clause.invariant.found
    ∙ ap (λ l. c.args.faults.now.items ++ found_after (entries c.args.scopes.now) (map linked clauses) [] (map linked l))
    (take_all c.loop-clause.clause-index clauses (omega (arith, c.loop-clause-test.false)))
