use Rattle.http_exchange.proofs.form.TrailersForm.read.Goals as goal

pub returns-in-Some : goal.returns-in-Some
returns-in-Some c = rw c.in-Some.is at c.in_ok-len.ensures
