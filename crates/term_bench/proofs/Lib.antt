mod Made
mod Orders
mod Placed
mod ReadyRing
mod Rising
mod RisingCharts
mod Sound
mod TiedTowers
