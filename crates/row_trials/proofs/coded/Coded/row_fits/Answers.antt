-- `row_trials::coded::Coded::row_fits` meets its contract: a bit that is good and not bad. Assumes nothing.
use Rattle.row_trials.proofs.RowLaws.{none_left, some_left}
use Rattle.row_trials.proofs.coded.Coded.row_fits.Goals as goal

pub returns-then-good-eq0 : goal.returns-then-good-eq0
returns-then-good-eq0 c =
    let s = c.args.self.now in
    none_left s.on c.gathered.result c.args.near.now.words.now s.inside.now s.words.now s.codes.now s.borders.now c.args.t c.gathered.ensures c.if-good-eq0.true

pub returns : goal.returns
returns c =
    let s = c.args.self.now in
    some_left s.on c.gathered.result c.args.near.now.words.now s.inside.now s.words.now s.codes.now s.borders.now c.args.t
    c.gathered.ensures c.gathered-over.result c.gathered-worse.result c.gathered-over.ensures c.gathered-worse.ensures
