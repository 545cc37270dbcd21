use Rattle.rdf_terms.proofs.ends.HashedEnds.new.Goals as goal

pub returns : goal.returns
returns c = λ i. record { subject = c.new.ensures i; object = c.new-2.ensures i }
