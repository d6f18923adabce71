use Rattle.std.proofs.Common.{◌++◌, ◌∷◌, [], ◌∙◌, ap}
use Rattle.std.specs.Prelude.{is_ok}
use Rattle.vitc_reader.specs.Runs.{runs_of_bytes}
use Rattle.vitc_reader.proofs.AnswerGrows.{AreSaid-last}
use Rattle.vitc_reader.proofs.TurnedSoFar.{told_success}
use Rattle.vitc_reader.proofs.field.FieldReader.line_of_bytes.Goals as goal

-- what the lines say, with what this one says
pub returns-clause-next : goal.returns-clause-next
returns-clause-next c = λ lines stood.
    let stands = rw (← c.self.view_is) at stood in (
      stands.0 ++ c.say-said.result ∷ [],
      AreSaid-last c.self.inside.system c.self.inside.length lines stands.0 (runs_of_bytes c.args.bytes.now)
          c.say-said.result stands.1
          (c.say-said.ensures _ _ c.read_bytes-read.ensures.reads c.read_bytes-read.ensures.refuses),
      c.with-self-inside.ensures stands.0 stands.2,
    )

pub returns-clause-reads : goal.returns-clause-reads
returns-clause-reads c =
    rw (← c.self.view_is) (λ read. (
      c.self.invariant.1,
      told_success c.read_bytes-read.result c.is_ok-is_read.result c.is_ok-is_read.ensures.value
          c.read_bytes-read.ensures.reads read,
    ))

pub returns-clause-only : goal.returns-clause-only
returns-clause-only c =
    rw (← c.self.view_is) (λ bits stand.
    c.is_ok-is_read.ensures.value ∙ ap is_ok (c.read_bytes-read.ensures.only bits stand))
