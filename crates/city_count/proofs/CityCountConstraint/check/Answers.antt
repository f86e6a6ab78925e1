-- `CityCountConstraint::check` meets its contract: each test is a question of `check_of`. Assumes nothing.
use Rattle.std.proofs.Common.{◌∙◌, rules}
use Rattle.city_count.proofs.LoopLaws.{ends_told}
use Rattle.city_count.proofs.RoomLaws.{no_ends, by_book}
use Rattle.city_count.proofs.CityCountConstraint.check.Goals as goal

pub returns-then-not-ends_exist : goal.returns-then-not-ends_exist
returns-then-not-ends_exist c =
    let r = c.args.self.now in
    no_ends r.vertices r.edges r.us r.vs r.book c.if-self-gt-CELLS.false c.if-self-gt-BORDERS.false
    (ends_told r.vertices r.edges r.us r.vs c.if-self-gt-BORDERS.false (search rules) (search rules) c.ends_exist.ensures c.if-not-ends_exist.true)

pub returns : goal.returns
returns c =
    let r = c.args.self.now in
    c.check.ensures
    ∙ by_book r.vertices r.edges r.us r.vs r.book c.if-self-gt-CELLS.false c.if-self-gt-BORDERS.false
    (ends_told r.vertices r.edges r.us r.vs c.if-self-gt-BORDERS.false (search rules) (search rules) c.ends_exist.ensures c.if-not-ends_exist.false)
