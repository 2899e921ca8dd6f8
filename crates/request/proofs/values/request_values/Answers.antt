-- Each value is what the reader of its field hands back, and that is the definition's by the reader's own contract.
use Rattle.request.proofs.values.request_values.Goals as goal

pub returns : goal.returns
returns c =
    rw (
      c.amounts-amounts.ensures,
      c.tiers.ensures,
      c.revenues-revenues.ensures,
      c.connection-connection.ensures,
      c.person.ensures,
      c.class.ensures,
      c.zone.ensures,
      c.added_demands.ensures,
      c.read_factors.ensures,
      c.read_factors-2.ensures,
      c.read_factors-3.ensures,
    )
