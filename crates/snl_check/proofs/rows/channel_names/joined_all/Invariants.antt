use Rattle.std.proofs.Common.{◌≡◌, ◌++◌, drop}
use Rattle.snl_check.specs.Channels.{joined}
use Rattle.snl_check.specs.ItemTokens.{own_tokens}
use Rattle.snl_check.proofs.rows.channel_names.joined_all.Given as goal

-- what is joined so far and that of the rest is all
abbrev pub invariant-loop-string : goal.invariant-loop-string
invariant-loop-string l =
    l.bytes.items ++ joined l.source.text.now (own_tokens l.source) (drop l.string-index l.strings) ≡ joined l.source.text.now (own_tokens l.source) l.strings
