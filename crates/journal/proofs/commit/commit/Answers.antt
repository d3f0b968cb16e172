use Rattle.std.proofs.Common.{arith, sym, ◌∙◌, ◌+◌, ◌≤◌, ◌<◌, length}
use Rattle.std.proofs.lemmas.Bool.{ltb-true, ltb-false}
use Rattle.rules.specs.Journal.{record_length, olds}
use Rattle.plan.specs.View.{answer_of, kind_of, address_of, stores_of}
use Rattle.journal.proofs.Effects.{committed-refused, committed-full, committed-done}
use Rattle.journal.proofs.commit.commit.Goals as goal

pub returns-then-log-ne0-clause-effect : goal.returns-then-log-ne0-clause-effect
returns-then-log-ne0-clause-effect c = committed-refused _ _ _ _ _ _ _ _ c.if-log-ne0.true

pub returns-then-is_full-clause-effect : goal.returns-then-is_full-clause-effect
returns-then-is_full-clause-effect c =
    let u : length c.args.journal.now < c.args.used + record_length c.count-count.result = ltb-true _ _ (sym c.is_full.ensures ∙ c.if-is_full.true) in
    committed-full (olds c.args.mem.now) _ _ _ _ _ _ (stores_of c.args.log.now) c.if-log-ne0.false (omega (arith, u, c.outline_of-o.ensures.counts))

pub returns-clause-effect : goal.returns-clause-effect
returns-clause-effect c =
    let a = c.args in
    let u : a.used + record_length c.count-count.result ≤ length a.journal.now = ltb-false _ _ (sym c.is_full.ensures ∙ c.if-is_full.false) in
    rw
    (c.make.ensures, c.put_pairs.ensures, c.outline_of-o.ensures.touches, c.count-count.ensures, c.outline_of-o.ensures.counts)
    (committed-done (olds a.mem.now) a.used a.mem.now a.journal.now (answer_of a.log.now) (kind_of a.log.now) (address_of a.log.now) (stores_of a.log.now) c.if-log-ne0.false (omega (arith, u, c.outline_of-o.ensures.counts)))
