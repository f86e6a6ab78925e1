-- `CityCountConstraint::put_ends` meets its contract: what is copied to a front, in the words of `sets`. Assumes nothing.
use Rattle.std.proofs.Common.{◌≡◌, refl, ◌++◌, ◌≤◌, rules, length}
use Rattle.std.proofs.lemmas.List.Edits.{sets}
use borrow.Rule.Slice.PartMut.{post_of}
use Rattle.lists.proofs.SetsLaws.{front_written}
use Rattle.city_count.proofs.CityCountConstraint.put_ends.Goals as goal

pub returns : goal.returns
returns c =
    let s = c.args.self.now in
    let us = c.args.us.now in
    let vs = c.args.vs.now in
    let h : length us ≤ length s.us = search rules in
    let k : length vs ≤ length s.vs = search rules in
    let a : c.copy_from_slice.new.self ++ post_of 0 (length us) s.us ≡ sets s.us 0 us = rw c.copy_from_slice.ensures.after (front_written s.us us h) in
    let b : c.copy_from_slice-2.new.self ++ post_of 0 (length vs) s.vs ≡ sets s.vs 0 vs = rw c.copy_from_slice-2.ensures.after (front_written s.vs vs k) in
    rw (a, b) refl
