use Rattle.std.specs.Prelude.{codes, decimal, ◌++◌}
use Rattle.snl_forms.specs.Forms.{columns_text}
use Rattle.snl_forms.proofs.Then.{and_then}
use Rattle.snl_forms.proofs.sarif.put_columns.Goals as goal

pub returns : goal.returns
unfolding columns_text
returns c =
    and_then c.args.out.now.items _ _
    (codes ", \"region\": {\"startLine\": " ++ decimal c.args.place.line) _
    c.in_ok-put_number.ensures
    (and_then c.put_number.new.out.items _ _
    (codes ", \"startColumn\": " ++ decimal c.args.place.column) _
    c.in_ok-put_number-2.ensures
    (and_then c.put_number-2.new.out.items _ _
    (codes ", \"endColumn\": " ++ decimal c.args.place.end_column) _
    c.in_ok-put_number-3.ensures
    (c.in_ok-put_bytes.ensures)))
