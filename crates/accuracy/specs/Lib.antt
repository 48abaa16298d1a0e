pub mod PowerSeries
