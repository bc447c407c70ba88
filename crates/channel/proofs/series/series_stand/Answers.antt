use Rattle.channel.proofs.Standing as standing
use Rattle.channel.proofs.series.series_stand.Goals as goal

pub returns : goal.returns
returns c = record { back = standing.come-back; fit = standing.fit; join = standing.join }
