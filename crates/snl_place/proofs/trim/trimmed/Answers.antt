use Rattle.std.proofs.Common.{ℕ, List}
use Rattle.snl_place.proofs.CommonEnds.{first_apart, last_apart, trim_of, trimmed_parts}
use Rattle.snl_place.proofs.trim.trimmed.Goals as goal

pub returns-clause-same : goal.returns-clause-same
returns-clause-same c =
    let text : List ℕ = c.args.text.now in
    let new : List ℕ = c.args.new.now in
    let start : ℕ = c.args.start in
    let stop : ℕ = c.args.stop in
    let front = c.common_front-front in
    let back = c.common_back-back in
    let trim = trim_of text new start stop front.result back.result c.requires.order
    c.requires.inside front.ensures.old front.ensures.new back.ensures.old back.ensures.new in
    trimmed_parts text new _ _ start stop front.result back.result trim
    front.ensures.same back.ensures.same

pub returns-clause-tight : goal.returns-clause-tight
returns-clause-tight c =
    let text : List ℕ = c.args.text.now in
    let new : List ℕ = c.args.new.now in
    let start : ℕ = c.args.start in
    let stop : ℕ = c.args.stop in
    let front = c.common_front-front in
    let back = c.common_back-back in
    let f : ℕ = front.result in
    let b : ℕ = back.result in
    let trim = trim_of text new start stop f b c.requires.order
    c.requires.inside front.ensures.old front.ensures.new back.ensures.old back.ensures.new in
    record {
      first = first_apart text new _ _ start stop f b trim front.ensures.most;
      last = last_apart text new _ _ start stop f b trim back.ensures.most;
    }
