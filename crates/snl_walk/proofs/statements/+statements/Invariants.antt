use Rattle.std.proofs.Common.{◌≡◌, ◌++◌, drop}
use Rattle.snl_walk.specs.Tokens.{token_bytes}
use Rattle.snl_walk.specs.Statements.{arms_of, found_in_branches, found_in_contents, last_of, contents_of}
use Rattle.snl_walk.proofs.statements.+statements.Given as goal

-- what is found so far and in the rest is what is found in all
abbrev pub invariant-add_block-loop-member : goal.invariant-add_block-loop-member
invariant-add_block-loop-member l = record {
  names : l.names ≡ l.initial.names;
  found : l.found.items ++ found_in_contents (contents_of (token_bytes l.source.text.now l.source.tokens.now) (drop l.member-index l.members)) l.initial.names l.context
      ≡ l.initial.found.items ++ found_in_contents (contents_of (token_bytes l.source.text.now l.source.tokens.now) l.members) l.initial.names l.context;
}

abbrev pub invariant-add_statement-loop-arm : goal.invariant-add_statement-loop-arm
invariant-add_statement-loop-arm l = record {
  names : l.names ≡ l.initial.names;
  found : l.found.items ++ found_in_branches (token_bytes l.source.text.now l.source.tokens.now) (arms_of (token_bytes l.source.text.now l.source.tokens.now) (drop l.arm-index l.arm-items)) (last_of (token_bytes l.source.text.now l.source.tokens.now) l.last) l.initial.names l.context
      ≡ l.initial.found.items ++ found_in_branches (token_bytes l.source.text.now l.source.tokens.now) (arms_of (token_bytes l.source.text.now l.source.tokens.now) l.arm-items) (last_of (token_bytes l.source.text.now l.source.tokens.now) l.last) l.initial.names l.context;
}
