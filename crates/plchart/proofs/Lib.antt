-- Laws of the rows of the chart.
mod RowLaws
