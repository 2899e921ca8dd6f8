-- Where the entries and the schemes are sound, the places left decide.
use Rattle.std.proofs.Common.{ap, subst, sym, ◌∙◌}
use Rattle.ledger.specs.Sound.{parties_sound, schemes_sound, all_zero}
use Rattle.ledger.specs.Tallied.{OwnPlaces, Rising}
use Rattle.ledger.proofs.Theorems.Lookup.{own_places, rising}
use Rattle.ledger.proofs.Rest.{by_each, last_holds}
use Rattle.ledger.proofs.sound.records_sound.Goals as goal

pub tally_entries-requires-clause-rise : goal.tally_entries-requires-clause-rise
tally_entries-requires-clause-rise c = subst Rising (sym c.split_at.ensures.front) (rising c.args.ledger.now.next_scheme _ c.requires.rise)

pub schemes_sound-requires-clause-placed : goal.schemes_sound-requires-clause-placed
schemes_sound-requires-clause-placed c = subst OwnPlaces (sym c.split_at.ensures.front) (own_places c.args.ledger.now.next_scheme _ c.requires.rise)

pub returns-then-schemes_sound-clause-holds : goal.returns-then-schemes_sound-clause-holds
returns-then-schemes_sound-clause-holds c =
    let ledger = c.args.ledger.now in
    let schemes = ap (schemes_sound ledger.month c.args.entries.now) (sym c.split_at.ensures.front) ∙ sym (c.schemes_sound.ensures c.args.entries.now c.in-Some.ensures.1) ∙ c.if-schemes_sound.true in
    rw (ap (λ front. parties_sound front c.args.entries.now) (sym c.split_at.ensures.front) ∙ c.in-Some.ensures.0, schemes) (by_each _ _ c.all_zero.ensures ∙ ap all_zero c.split_at.ensures.back ∙ last_holds _)
