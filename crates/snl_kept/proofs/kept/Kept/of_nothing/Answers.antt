use Rattle.std.proofs.Common.{List, [], count_by, map, ap, ◌∙◌}
use Rattle.snl_lex.specs.declared.piece.Piece.{Piece}
use Rattle.snl_lex.specs.Lines.{is_marker}
use Rattle.snl_lex.specs.Pieces.{piece_end}
use Rattle.snl_items.specs.Items.{mark_in}
use Rattle.snl_kept.proofs.Nothing.{no_checks, no_ends, no_entries, no_pieces, no_tokens}
use Rattle.snl_kept.proofs.kept.Kept.of_nothing.Goals as goal

pub returns : goal.returns
returns c =
    record {
      lists = record {
        ends = c.new.ensures.items ∙ ap (map piece_end) no_pieces;
        kinds = c.new-2.ensures.items ∙ ap (map (λ (p : Piece). p.kind)) no_pieces;
        markers = ap (λ (ps : List Piece). count_by is_marker (map (λ (p : Piece). p.kind) ps)) no_pieces;
        lines = c.requires.lines;
        marks = c.new-3.ensures.items ∙ ap (map (mark_in [])) no_tokens;
        items = c.new-4.ensures.items ∙ no_ends;
        entries = c.new-5.ensures ∙ no_entries;
        links = c.requires.links;
        checks = c.new-6.ensures ∙ no_checks;
        warns = c.requires.warns;
      };
      found = c.requires.diagnostics;
      tables = c.requires.tables;
    }
