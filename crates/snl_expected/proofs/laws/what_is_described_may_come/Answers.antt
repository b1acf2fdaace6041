use Rattle.snl_expected.specs.Expected.{comes}
use Rattle.snl_expected.specs.Kinds.{all_kinds}
use Rattle.snl_expected.proofs.DescribedKinds.{comes_described, described_comes}
use Rattle.snl_expected.proofs.laws.what_is_described_may_come.Goals as goal

pub returns-clause-described : goal.returns-clause-described
returns-clause-described c before next there h = described_comes (comes before) all_kinds next there h

pub returns-clause-all : goal.returns-clause-all
returns-clause-all c before next there h = comes_described (comes before) all_kinds next there h
