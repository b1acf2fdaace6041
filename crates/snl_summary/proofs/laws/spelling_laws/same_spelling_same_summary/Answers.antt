use Rattle.snl_summary.proofs.SpelledAlike.{bytes_told, same_bytes, same_summary, spelled_alone, summary_told}
use Rattle.snl_summary.proofs.laws.spelling_laws.same_spelling_same_summary.Goals as goal

pub returns : goal.returns
returns c = record { bytes = same_bytes; summary = same_summary; bytes_by_spelling = bytes_told; alone = spelled_alone; summary_by_spelling = summary_told }
