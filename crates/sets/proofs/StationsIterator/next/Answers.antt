use mathlib.Core.Path.{◌≡◌, ap}
use mathlib.Core.List.{◌∷◌}
use lib.ListN.{length}
use native.Mathlib.Omega.{arith}
use Rattle.quorum.specs.Sets.{rising}
use Rattle.sets.proofs.Rising.{rising_first}
use Rattle.sets.proofs.StationsIterator.next.Goals as goal
use Rattle.sets.proofs.StationsIterator.next.Goals.{After-without_lowest-self}

-- the station taken, and those left
taken : (c : After-without_lowest-self) → rising c.args.self.now.0 ≡ c.lowest-station.result ∷ rising c.without_lowest-self.result
taken c = rw (c.lowest-station.ensures, c.without_lowest-self.ensures) (rising_first c.args.self.now.0 (omega arith) c.if-self-eq0.false)

pub returns-clause-steps : goal.returns-clause-steps
returns-clause-steps c = (
  c.if-self-eq0.false,
  c.lowest-station.ensures,
  c.without_lowest-self.ensures,
  taken (goal.at.returns-clause-steps c).After-without_lowest-self,
)

pub returns-clause-goes : goal.returns-clause-goes
returns-clause-goes c =
    let fewer = ap length (taken (goal.at.returns-clause-goes c).After-without_lowest-self) in
    record {
      on = λ _. (tt, tt, omega (arith, fewer));
      keeps = tt;
      rests = λ _. tt;
    }
